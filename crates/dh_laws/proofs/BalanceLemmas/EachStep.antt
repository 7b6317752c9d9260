-- Each step moves what a lease owes as told.
use Rattle.std.proofs.Common.{◌≡◌, sym, subst, ℕ, ◌+◌, Bool, true, false, cond, nat_eq, if◌then◌else◌, arith}
use Rattle.std.specs.Prelude.{ℤ, pos, ◌+ℤ◌, ◌-ℤ◌}
use Rattle.std.proofs.lemmas.Int.{ints}
use Rattle.std.specs.FinMap.{len}
use Rattle.dh_values.specs.declared.receipt_kind.ReceiptKind.TheVariants.{Rent}
use Rattle.dh_types.specs.declared.lease.Receipt.{Receipt}
use Rattle.dh_types.specs.declared.command.Command.{Command}
use Rattle.dh_types.specs.declared.command.RunOrder.{RunOrder}
use Rattle.dh_types.specs.Records.{is_same_receipt_kind}
use Rattle.dh_model.specs.declared.rows.Change.{Change}
use Rattle.dh_model.specs.declared.rows.Change.TheVariants as change
use Rattle.dh_model.specs.declared.rows.Verdict.{Verdict}
use Rattle.dh_model.specs.declared.rows.Verdict.TheVariants as verdict
use Rattle.dh_model.specs.Books.{Books, State}
use Rattle.dh_model.specs.Machine.{changed, step}
use Rattle.dh_model.specs.Runs.{ran, total_of}
use Rattle.dh_model.specs.Answers.{balance, charges_of, rent_paid}
use Rattle.dh_model.specs.Rules.{IsLawful}
use Rattle.dh_model.specs.Rules.Rule.{Keys}
use Rattle.dh_model.specs.Verdicts.{opened_run, verdict_on}
use Rattle.dh_model.proofs.KeyOrders.{nat_ties, nat_total}
use Rattle.dh_laws.specs.InOrder.{AreKeyed}
use Rattle.dh_laws.specs.Batches.{is_plain}
use Rattle.dh_laws.specs.Balances.{BalancesMoveAsTold, due_on, moved}
use Rattle.dh_laws.proofs.BalanceLemmas.Sums.{kept_twice_new}
use Rattle.dh_laws.proofs.BalanceLemmas.Dues.{ran_adds}
use Rattle.dh_laws.proofs.VerdictLemmas.Acceptance.{Accepted, turned}
use Rattle.dh_laws.proofs.FactLemmas.Fit.{next_number_is_new}
use Rattle.dh_laws.proofs.CommandLemmas.Steps.{step_holds}

stays : (z : ℤ) → z ≡ z +ℤ pos 0
stays z = omega (arith, ints)

-- more is charged
more_due : (charged paid due after : ℕ) → after ≡ charged + due → pos after -ℤ pos paid ≡ (pos charged -ℤ pos paid) +ℤ pos due
more_due charged paid due after e = omega (arith, ints, e)

-- more is paid, if it is of this lease, and rent
more_paid : (of is : Bool) (charged paid amount after : ℕ) → after ≡ paid + cond of (cond is amount 0) 0
    → pos charged -ℤ pos after ≡ (pos charged -ℤ pos paid) +ℤ (if of then (if is then pos 0 -ℤ pos amount else pos 0) else pos 0)
more_paid true true charged paid amount after e = omega (arith, ints, e)
more_paid true false charged paid amount after e = omega (arith, ints, e)
more_paid false is charged paid amount after e = omega (arith, ints, e)

module _ (size : ℕ) (s : State) (lease : ℕ) (keyed : AreKeyed s.books) (lawful : IsLawful s.books size) where
  -- under this verdict the books after the step move what is owed as told
  abbrev Moves : Verdict → Books → Type 0
  Moves v after = balance after lease ≡ balance s.books lease +ℤ moved s.books v lease

  own : balance s.books lease ≡ balance s.books lease +ℤ pos 0
  own = stays (balance s.books lease)

  paid : (it : Receipt) → it.number ≡ len s.books.receipts + 1 → Moves (verdict.Change (change.Receipt it)) (changed (change.Receipt it) s.books)
  paid it next =
      more_paid (nat_eq it.payment.lease lease) (is_same_receipt_kind it.payment.kind Rent) (total_of (charges_of s.books lease)) (rent_paid s.books lease)
      it.payment.amount (rent_paid (changed (change.Receipt it) s.books) lease)
      (kept_twice_new nat_total nat_ties (λ it. it.payment.amount) (λ it. nat_eq it.payment.lease lease)
      (λ it. is_same_receipt_kind it.payment.kind Rent) s.books.receipts it.number it (next_number_is_new s.books keyed (lawful.rules Keys) it.number next))

  ran_moves : (order : RunOrder) → order.month ≡ s.books.next
      → Moves (verdict.Change (change.Open (opened_run s.books order))) (ran size s.books order.key)
  ran_moves order same =
      let after = total_of (charges_of (ran size s.books order.key) lease) in
      let before = total_of (charges_of s.books lease) in
      more_due before (rent_paid s.books lease) (total_of (due_on s.books order.month lease)) after
      (subst (λ month. after ≡ before + total_of (due_on s.books month lease)) (sym same) (ran_adds size s.books keyed lawful order.key lease))

  turned_moves : (rows : Change) (a : Accepted s.books s.open_run rows) → is_plain rows ≡ true
      → Moves (verdict.Change rows) (turned s.books s.open_run rows a)
  turned_moves (change.Receipt it) a plain = paid it a.known
  turned_moves (change.Open row) a plain = cc
  turned_moves rows a plain = own

  moves : (told : Command) → Moves (verdict_on s.books s.open_run told) (step size s told).0.books
  moves told = step_holds size s Moves (λ kept. own) (λ why. own) own ran_moves turned_moves told

pub balances_move_as_told : (size : ℕ) → BalancesMoveAsTold size
balances_move_as_told size s told lease some keyed lawful = moves size s lease keyed lawful told

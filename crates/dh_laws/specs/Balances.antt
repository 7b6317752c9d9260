-- What the leases owe.
use Rattle.std.specs.Prelude.{◌≡◌, ◌<◌, ◌≤◌, ◌↔◌, ℕ, ℤ, pos, ◌+ℤ◌, ◌-ℤ◌, nat_eq, if◌then◌else◌, List, filter, Option}
use Rattle.std.specs.List.{IsAmong}
use Rattle.std.specs.FinMap.{values}
use Rattle.dh_values.specs.declared.receipt_kind.ReceiptKind.TheVariants.{Rent}
use Rattle.dh_types.specs.declared.lease.Charge.{Charge}
use Rattle.dh_types.specs.declared.lease.Ending.{Ending}
use Rattle.dh_types.specs.declared.command.Command.{Command}
use Rattle.dh_types.specs.declared.command.Command.TheVariants as command
use Rattle.dh_types.specs.Records.{is_same_receipt_kind}
use Rattle.dh_model.specs.declared.open_run.OpenRun.{OpenRun}
use Rattle.dh_model.specs.declared.rows.Verdict.{Verdict}
use Rattle.dh_model.specs.declared.rows.Verdict.TheVariants as verdict
use Rattle.dh_model.specs.declared.rows.Change.{Change}
use Rattle.dh_model.specs.declared.rows.Change.TheVariants as change
use Rattle.dh_model.specs.Books.{Books, State}
use Rattle.dh_model.specs.Leases.{dues}
use Rattle.dh_model.specs.Runs.{total_of}
use Rattle.dh_model.specs.Answers.{balance}
use Rattle.dh_model.specs.Rules.{IsLawful, IsThere}
use Rattle.dh_model.specs.Verdicts.{verdict_on}
use Rattle.dh_model.specs.Machine.{changed, step}
use Rattle.dh_laws.specs.InOrder.{AreKeyed}

-- what falls due on the lease in the month
abbrev pub due_on : Books → ℕ → ℕ → List Charge
due_on books month lease = filter (λ charge. nat_eq charge.lease lease) (dues books month)

-- what an accepted command adds to what a lease owes: a run its due, a rent receipt its amount less than nothing
abbrev pub moved : Books → Verdict → ℕ → ℤ
moved books (verdict.Change (change.Open run)) lease = pos (total_of (due_on books run.month lease))
moved books (verdict.Change (change.Receipt receipt)) lease =
    if nat_eq receipt.payment.lease lease then
    (if is_same_receipt_kind receipt.payment.kind Rent then pos 0 -ℤ pos receipt.payment.amount else pos 0) else pos 0
moved books _ lease = pos 0

-- an accepted end leaves what fell due in the months that were run
abbrev pub EndsKeepDues : Type 0
EndsKeepDues = (books : Books) (run : Option OpenRun) (ending : Ending) (rows : Change) (month : ℕ) → AreKeyed books
    → verdict_on books run (command.End ending) ≡ verdict.Change rows → month < books.next → dues (changed rows books) month ≡ dues books month

module _ (size : ℕ) where
  -- over whole books each step moves what a lease owes by that, and by nothing else
  abbrev pub BalancesMoveAsTold : Type 0
  BalancesMoveAsTold = (s : State) (told : Command) (lease : ℕ) → 1 ≤ size → AreKeyed s.books → IsLawful s.books size
      → balance (step size s told).0.books lease ≡ balance s.books lease +ℤ moved s.books (verdict_on s.books s.open_run told) lease

  -- what is charged in whole books is what fell due in the months that were run, and nothing else
  abbrev pub ChargesAreDues : Type 0
  ChargesAreDues = (books : Books) (charge : Charge) → 1 ≤ size → AreKeyed books → IsLawful books size
      → IsAmong (values books.charges) charge ↔ ((month : ℕ) × IsThere books.runs month × IsAmong (dues books month) charge)

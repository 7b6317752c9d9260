-- A receipt that was acknowledged is in the books for good.
use Rattle.std.proofs.Common.{◌≡◌, sym, ap, subst, ℕ, ◌+◌, ◌≤◌, List, [], ◌∷◌, ◌++◌, Some}
use Rattle.std.specs.FinMap.{get, insert, len, values}
use Rattle.std.proofs.lemmas.List.{append_assoc}
use Rattle.dh_types.specs.declared.lease.Receipt.{Receipt}
use Rattle.dh_types.specs.declared.command.Command.{Command}
use Rattle.dh_types.specs.declared.command.Command.TheVariants as command
use Rattle.dh_types.specs.declared.command.ReceiptOrder.{ReceiptOrder}
use Rattle.dh_types.specs.declared.reply.Reply.{Reply}
use Rattle.dh_types.specs.declared.reply.Reply.TheVariants as reply
use Rattle.dh_model.specs.declared.rows.Change.TheVariants as change
use Rattle.dh_model.specs.declared.rows.Verdict.{Verdict}
use Rattle.dh_model.specs.declared.rows.Verdict.TheVariants as verdict
use Rattle.dh_model.specs.Books.{Books, State}
use Rattle.dh_model.specs.Rules.{IsLawful}
use Rattle.dh_model.specs.Rules.Rule.{Keys}
use Rattle.dh_model.specs.Verdicts.{Frozen, receipt_ruling}
use Rattle.dh_laws.proofs.VerdictLemmas.Rulings.{of_ruling}
use Rattle.dh_model.specs.Machine.{settled, step}
use Rattle.dh_model.specs.Whole.{completed, whole}
use Rattle.dh_model.proofs.Among.{is_among}
use Rattle.dh_model.proofs.KeyOrders.{nat_ties, nat_total}
use Rattle.dh_laws.specs.InOrder.{AreKeyed, IsEntered, IsInOrder}
use Rattle.dh_laws.proofs.InvariantLemmas.Order.{changes_keep_order}
use Rattle.dh_model.proofs.MapRows.{get_new}
use Rattle.dh_laws.proofs.MonthLemmas.Shown.{none_open}
use Rattle.dh_laws.proofs.MonthLemmas.Steps.{steps_keep}
use Rattle.dh_laws.proofs.MonthLemmas.Whole.{whole_is_lawful}
use Rattle.dh_laws.proofs.BatchLemmas.Opening.{run_is_opening_made_whole}
use Rattle.dh_laws.specs.Events.{Event, Follow, Recovered, Answered, Tables, state_of}
use Rattle.dh_laws.specs.Lives.{AcknowledgedReceiptsStay, AreEntered}
use Rattle.dh_laws.proofs.ReceiptLemmas.Events.{AreWhole, StepsKeep, entered_both, said_keeps, through}
use Rattle.dh_laws.proofs.ReceiptLemmas.Steps.{Has, step_has}

-- ---- a receipt's number is told only where its row is put in

module _ (size : ℕ) (s : State) (order : ReceiptOrder) (number : ℕ) where
  abbrev receipt : ℕ → Receipt
  receipt n = record { number = n; key = order.key; payment = order.payment }

  -- where the number is told, the receipt stands under it
  abbrev IsToldOf : State × Reply → Type 0
  IsToldOf after = after.1 ≡ reply.Receipt number → Has number (receipt number) after.0.books

  abbrev IsTold : Verdict → Type 0
  IsTold v = IsToldOf (settled size s (command.Receipt order) v)

  abbrev next : ℕ
  next = len s.books.receipts + 1

  told_new : IsTold (verdict.Change (change.Receipt (receipt next)))
  told_new e =
      let same : next ≡ number = cc in
      subst (λ n. get (insert s.books.receipts next (receipt next)) n ≡ Some (receipt n)) same (get_new nat_total nat_ties s.books.receipts next (receipt next))

  pub told : IsToldOf (step size s (command.Receipt order))
  told = of_ruling IsTold (λ why e. cc) Frozen s.open_run (receipt_ruling s.books (len s.books.receipts) order) (λ e. cc, tt) told_new

-- ---- what is kept from then on

module _ (size : ℕ) where
  pub record IsKept (books : Books) : Type 0 where
    pub keyed : AreKeyed books
    pub lawful : IsLawful books size

  pub kept_steps : 1 ≤ size → StepsKeep size IsKept
  kept_steps pos s told entered kept =
      let after = steps_keep size (changes_keep_order size) (whole_is_lawful size) (run_is_opening_made_whole size) s told pos kept.keyed kept.lawful entered in
      record { keyed = after.0; lawful = after.1 }

  pub kept_whole : AreWhole size IsKept
  kept_whole books kept = ap (completed size books) (none_open books (λ run a. kept.lawful.closed run (is_among (values books.runs) run a)))

  module _ {Row : Type 0} (Holds : Row → Books → Type 0)
      (step_holds : (row : Row) (s : State) → IsKept s.books → (told : Command) → Holds row s.books → Holds row (step size s told).0.books) where
    pub record HasFor (row : Row) (books : Books) : Type 0 where
      pub kept : IsKept books
      pub has : Holds row books

    has_steps : (row : Row) → 1 ≤ size → StepsKeep size (HasFor row)
    has_steps row pos s told entered h = record { kept = kept_steps pos s told entered h.kept; has = step_holds row s h.kept told h.has }

    -- what was put in where this was answered is there for good
    pub stays : (told : Command) (answer : Reply) → IsEntered told
        → ((s : State) → (step size s told).1 ≡ answer → (row : Row) × Holds row (step size s told).0.books)
        → (start after said : Tables) (before later : List (Event × Tables)) → 1 ≤ size → IsInOrder size start.books start.run → AreEntered (before ++ later)
        → Follow size start (before ++ (Answered told answer, said) ∷ later ++ (Recovered, after) ∷ []) → (row : Row) × HasFor row after.books
    stays told answer entered_is puts start after said before later pos in_order entered follow =
        let both = entered_both before later entered in
        let law = whole_is_lawful size start.books start.run pos in_order in
        let answered : List (Event × Tables) = (Answered told answer, said) ∷ later in
        let end : List (Event × Tables) = (Recovered, after) ∷ [] in
        let joined = subst (Follow size start) (append_assoc before answered end) follow in
        let first = through size IsKept (kept_steps pos) kept_whole before (answered ++ end) start both.0 joined (record { keyed = law.0; lawful = law.1 }) in
        let is = first.2.1 in
        let new = puts (state_of size first.0) (ap (λ (r : State × Reply). r.1) is) in
        let has : HasFor new.0 (whole size said.books) = record {
          kept = said_keeps size IsKept (kept_steps pos) kept_whole told answer first.0 said entered_is is first.1;
          has = subst (Holds new.0) (ap (λ (r : State × Reply). r.0.books) is) new.1;
        } in
        let second = through size (HasFor new.0) (has_steps new.0 pos) (λ books h. kept_whole books h.kept) later end said both.1 first.2.2 has in
        (new.0, subst (λ (t : Tables). HasFor new.0 t.books) (sym second.2.1) second.1)

pub acknowledged_receipts_stay : (size : ℕ) → AcknowledgedReceiptsStay size
acknowledged_receipts_stay size start after said before later order number pos in_order entered follow =
    let row : Receipt = record { number = number; key = order.key; payment = order.payment } in
    let kept = stays size (λ (it : Unit {0}) books. Has number row books)
    (λ it s kept told h. step_has number row size s kept.keyed (kept.lawful.rules Keys) told h) (command.Receipt order) (reply.Receipt number) tt
    (λ s answered. (tt, told size s order number answered)) start after said before later pos in_order entered follow in
    kept.1.has

-- A run or an opening that was acknowledged is in the books for good, and its month is charged.
use Rattle.std.proofs.Common.{◌≡◌, ◌∙◌, refl, sym, ap, subst, ℕ, Some}
use Rattle.std.specs.FinMap.{get, values}
use Rattle.dh_types.specs.declared.run.Run.{Run}
use Rattle.dh_types.specs.declared.run.RunSum.{RunSum}
use Rattle.dh_types.specs.declared.command.Command.{Command}
use Rattle.dh_types.specs.declared.command.Command.TheVariants as command
use Rattle.dh_types.specs.declared.command.RunOrder.{RunOrder}
use Rattle.dh_types.specs.declared.reply.Reply.TheVariants as reply
use Rattle.dh_model.specs.Books.{Books, State}
use Rattle.dh_model.specs.Machine.{step}
use Rattle.dh_model.specs.Rules.{MonthsInOrder}
use Rattle.dh_model.specs.Rules.Rule.{Months, Runs}
use Rattle.dh_model.specs.Runs.{ran, sum_of}
use Rattle.dh_model.proofs.Among.{is_among}
use Rattle.dh_model.proofs.KeyOrders.{nat_ties, nat_total}
use Rattle.dh_model.proofs.MapRows.{of_row}
use Rattle.dh_laws.specs.Lives.{AcknowledgedRunsStay, IsRunFor}
use Rattle.dh_laws.proofs.ReceiptLemmas.Stays.{IsKept, stays}
use Rattle.dh_laws.proofs.RunLemmas.Steps.{HasRun, step_has_run}
use Rattle.dh_laws.proofs.RunLemmas.Told.{made, made_there, was_opened, was_posted}

module _ (size : ℕ) where
  -- so its month is closed
  closed_for : (order : RunOrder) (row : Run) (books : Books) → row.month ≡ order.month → row.key ≡ order.key → IsKept size books → HasRun row books
      → IsRunFor books order row
  closed_for order row books month key kept has =
      let months : MonthsInOrder books size = kept.lawful.rules Months in
      let there = is_among (values books.runs) row (of_row nat_total nat_ties books.runs row.month row has) in
      (subst (λ m. get books.runs m ≡ Some row) month has, key, months.closed row there (kept.lawful.closed row there))

  module _ (order : RunOrder) (Fits : Run → Type 0) where
    -- a run of the order, which fits what was answered
    abbrev RunOf : Type 0
    RunOf = (row : Run) × (row.month ≡ order.month) × (row.key ≡ order.key) × Fits row

    abbrev IsIn : RunOf → Books → Type 0
    IsIn it books = HasRun it.0 books

    still_in : (it : RunOf) (s : State) → IsKept size s.books → (told : Command) → IsIn it s.books → IsIn it (step size s told).0.books
    still_in it s kept told has = step_has_run it.0 size s (kept.lawful.rules Runs) told has

  posted_puts : (order : RunOrder) (sum : RunSum) (s : State) → (step size s (command.Run order)).1 ≡ reply.Posted sum
      → (it : RunOf order (λ row. sum_of row ≡ sum)) × HasRun it.0 (step size s (command.Run order)).0.books
  posted_puts order sum s told =
      let was = was_posted size s order sum told in
      let books : (step size s (command.Run order)).0.books ≡ ran size s.books order.key = ap (λ (t : State). t.books) was.state in
      let row = made size s order in (
        (row, sym was.month, refl, sym was.sum_is),
        subst (HasRun row) (sym books) (ap (get (ran size s.books order.key).runs) (sym was.month)
            ∙ made_there size s order was.month),
      )

  opened_puts : (order : RunOrder) (month : ℕ) (s : State) → (step size s (command.Open order)).1 ≡ reply.Opened month
      → (it : RunOf order (λ row. month ≡ order.month)) × HasRun it.0 (step size s (command.Open order)).0.books
  opened_puts order month s told =
      let was = was_opened size s order month told in
      let books : (step size s (command.Open order)).0.books ≡ ran size s.books order.key = ap (λ (t : State). t.books) was.state in
      let row = made size s order in (
        (row, sym was.next, refl, was.month_is),
        subst (HasRun row) (sym books) (ap (get (ran size s.books order.key).runs) (sym was.next)
            ∙ made_there size s order was.next),
      )

pub acknowledged_runs_stay : (size : ℕ) → AcknowledgedRunsStay size
acknowledged_runs_stay size start after said before later order pos in_order entered = (
  λ sum follow.
      let kept = stays size (IsIn size order (λ row. sum_of row ≡ sum)) (still_in size order (λ row. sum_of row ≡ sum))
      (command.Run order) (reply.Posted sum) tt
      (posted_puts size order sum) start after said before later pos in_order entered follow in
      (kept.0.0, closed_for size order kept.0.0 after.books kept.0.1 kept.0.2 kept.1.kept kept.1.has, kept.0.3),
  λ month follow.
      let kept = stays size (IsIn size order (λ row. month ≡ order.month)) (still_in size order (λ row. month ≡ order.month)) (command.Open order)
      (reply.Opened month) tt (opened_puts size order month) start after said before later pos in_order entered follow in
      (kept.0.0, closed_for size order kept.0.0 after.books kept.0.1 kept.0.2 kept.1.kept kept.1.has, kept.0.3),
)

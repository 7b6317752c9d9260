-- Any batch of the open run, and its end, leaves books in order and their whole as it was.
use Rattle.std.proofs.Common.{◌≡◌, ◌∙◌, refl, sym, ap, subst, ℕ, ◌≤◌, Option, Some, None}
use Rattle.std.specs.FinMap.{get, values}
use Rattle.dh_types.specs.declared.run.Run.{Run}
use Rattle.dh_model.specs.declared.open_run.OpenRun.{OpenRun}
use Rattle.dh_model.specs.Books.{Books}
use Rattle.dh_model.specs.Runs.{batches}
use Rattle.dh_model.specs.Rules.{IsLawful}
use Rattle.dh_model.specs.Whole.{completed, open_row, whole, with_posted}
use Rattle.dh_model.proofs.Among.{is_among}
use Rattle.dh_laws.specs.InOrder.{IsInOrder}
use Rattle.dh_laws.proofs.MonthLemmas.Shown.{none_open}
use Rattle.dh_laws.proofs.MonthLemmas.Whole.{whole_is_lawful}
use Rattle.dh_laws.proofs.BatchLemmas.Rules.{are_posted, posted_keyed, posted_rules}
use Rattle.dh_laws.proofs.BatchLemmas.Whole.{completed_same, is_open}

module _ (size : ℕ) where
  -- the run takes as many batches once it is made
  batches_of_completed : (books : Books) (found : Option Run) (month : ℕ) → batches size (completed size books found) month ≡ batches size books month
  batches_of_completed books None month = refl
  batches_of_completed books (Some row) month = refl

  pub batches_of_whole : (books : Books) (month : ℕ) → batches size (whole size books) month ≡ batches size books month
  batches_of_whole books month = batches_of_completed books (open_row books) month

  -- in order, and as before when the open run is made
  pub record Leads (before : Books) (after : Books) (run : Option OpenRun) : Type 0 where
    pub order : IsInOrder size after run
    pub same : whole size after ≡ whole size before

  pub with_batches : (books : Books) (run : OpenRun) (n : ℕ) → IsInOrder size books (Some run) → n ≤ batches size books run.month
      → Leads books (with_posted size books run.month n) (Some (record { month = run.month; done = n }))
  with_batches books run n order few =
      let keyed = order.keyed in
      let rules = order.rules in
      let row = order.shown.0 in
      let shown = order.shown.1 in
      let own = order.shown.2 in
      let at = is_open books row keyed shown in
      let here : get books.runs run.month ≡ Some row = subst (λ m. get books.runs m ≡ Some row) own at.is in
      record {
        order = record {
          keyed = posted_keyed size books keyed rules run.month n;
          rules = posted_rules size books keyed rules run.month n row here at.open_still few;
          shown = (row, shown, own, are_posted size books keyed rules run.month n row here few);
        };
        same = ap (completed size (with_posted size books run.month n)) shown
            ∙ subst (λ m. completed size (with_posted size books m n) (Some row) ≡ completed size books (Some row)) own
            (completed_same size books keyed rules row n)
            ∙ sym (ap (completed size books) shown);
      }

  none_is_open : (books : Books) → IsLawful books size → open_row books ≡ None
  none_is_open books lawful = none_open books (λ run a. lawful.closed run (is_among (values books.runs) run a))

  pub at_the_end : (books : Books) (run : Option OpenRun) → 1 ≤ size → IsInOrder size books run → Leads books (whole size books) None
  at_the_end books run pos order =
      let law = whole_is_lawful size books run pos order in
      let lawful = law.1 in
      let none = none_is_open (whole size books) lawful in
      record {
        order = record { keyed = law.0; rules = lawful.rules; shown = none };
        same = ap (completed size (whole size books)) none;
      }

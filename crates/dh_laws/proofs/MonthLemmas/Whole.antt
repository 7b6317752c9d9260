-- Books in order are lawful once their open run is made to its end.
use Rattle.std.proofs.Common.{◌≡◌, refl, ℕ, ◌≤◌, Option, Some, None, le_refl}
use Rattle.std.specs.FinMap.{get, values}
use Rattle.dh_types.specs.declared.run.Run.{Run}
use Rattle.dh_model.specs.Books.{Books}
use Rattle.dh_model.specs.Kinds.{Kind}
use Rattle.dh_model.specs.Runs.{batches}
use Rattle.dh_model.specs.Rules.{IsLawful, MeetsRules}
use Rattle.dh_model.specs.Whole.{completed, open_row, with_posted}
use Rattle.dh_model.proofs.Among.{among}
use Rattle.dh_model.proofs.KeyOrders.{nat_ties, nat_total}
use Rattle.dh_laws.specs.InOrder.{AreKeyed}
use Rattle.dh_laws.specs.Keeping.{WholeIsLawful}
use Rattle.dh_laws.proofs.MapMerges.{own_row}
use Rattle.dh_laws.proofs.MonthLemmas.Close.{closing_is_lawful}
use Rattle.dh_laws.proofs.MonthLemmas.Shown.{all_closed, shown_row}
use Rattle.dh_laws.proofs.BatchLemmas.Rules.{are_posted, posted_keyed, posted_rules}

module _ (size : ℕ) (books : Books) (pos : 1 ≤ size) (keyed : AreKeyed books) (rules : MeetsRules books size) where
  -- where no run is open, the books are lawful
  pub lawful_closed : open_row books ≡ None → IsLawful books size
  lawful_closed none = record { rules = rules; closed = λ run a. all_closed books none run (among (values books.runs) run a) }

  pub whole_of : (found : Option Run) → open_row books ≡ found → AreKeyed (completed size books found) × IsLawful (completed size books found) size
  whole_of None shown = (keyed, lawful_closed shown)
  whole_of (Some row) shown =
      let all = batches size books row.month in
      let is = shown_row books row shown in
      let at : get books.runs row.month ≡ Some row = own_row nat_total nat_ties (λ (run : Run). run.month) books.runs (keyed Kind.Runs) row is.0 in
      closing_is_lawful size (with_posted size books row.month (batches size books row.month)) row pos
      (posted_keyed size books keyed rules row.month (batches size books row.month))
      (posted_rules size books keyed rules row.month (batches size books row.month) row at is.1 (le_refl all))
      shown
      (are_posted size books keyed rules row.month (batches size books row.month) row at (le_refl all))

pub whole_is_lawful : (size : ℕ) → WholeIsLawful size
whole_is_lawful size books run pos in_order = whole_of size books pos in_order.keyed in_order.rules (open_row books) refl

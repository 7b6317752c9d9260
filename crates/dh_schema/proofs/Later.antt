-- Looks at a table that came with the second version.
use Rattle.std.proofs.Common.{◌≡◌, ◌∙◌, ◌||◌, sym, ap, Bool, Ok}
use Rattle.std.specs.declared.cmp.Ordering.{Ordering}
use Rattle.std.specs.Cmp.{IsTotalOrder}
use Rattle.std.specs.FinMap.{FinMap, IsAntisymmetric, empty, get, get-empty, same_map}
use Rattle.sqlite.specs.State as sqlite
use Rattle.sqlite.specs.State.{HasCleanDisk}
use Rattle.dh_model.specs.Books.{State}
use Rattle.dh_model.specs.Whole.{rows_where}
use Rattle.dh_model.proofs.MapRows.{kept_if}
use Rattle.dh_laws.proofs.MapMerges.{get-rows_where}
use Rattle.dh_tables.specs.Tables.{Accessor}
use Rattle.dh_schema.specs.Store.{tables}
use Rattle.dh_schema.specs.Looked.{Brings}

module _ {K X : Type 0} {R : K → K → Ordering} (o : IsTotalOrder R) (anti : IsAntisymmetric R) where
  -- of no rows no test keeps one
  pub none_kept : (test : X → Bool) (m : FinMap R X) → m ≡ empty → rows_where test m ≡ empty
  none_kept test m is = same_map o anti (rows_where test m) empty (λ q.
      get-rows_where o anti test m q ∙ ap (kept_if test) (ap (λ (n : FinMap R X). get n q) is ∙ get-empty R q) ∙ sym (get-empty R q))

  -- tables that have none bring none
  pub none_brought : (accessor : Accessor K X R) (asks : X → Bool) (now : sqlite.State) (books : State)
      → (HasCleanDisk now → accessor.held (tables now) ≡ empty)
      → Brings accessor asks (Ok tt) now books now books
  none_brought accessor asks now books none = record {
    first = λ t b both had clean.
        let same = both clean in
        let kept = none_kept asks (accessor.held t) (ap accessor.held (sym same.0) ∙ none clean) in
        (same.0, same.1 ∙ sym (accessor.with_held b) ∙ ap (accessor.with b) (had ∙ sym kept));
    more = λ t b test both had clean.
        let same = both clean in
        let is_none = ap accessor.held (sym same.0) ∙ none clean in
        let kept = none_kept test (accessor.held t) is_none in
        let more = none_kept (λ x. test x || asks x) (accessor.held t) is_none in
        (same.0, same.1 ∙ sym (accessor.with_held b) ∙ ap (accessor.with b) (had ∙ kept ∙ sym more));
  }

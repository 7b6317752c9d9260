-- The rows that a text shows, for any kind that has a table and any question about it.
use Rattle.std.proofs.Common.{◌≡◌, ℕ, Bool, true, List, [], map, IfOk, Ok, Err, Result, subst, IsPermutation}
use Rattle.std.specs.declared.cmp.Ordering.{Ordering}
use Rattle.std.specs.declared.alloc.Global.{Global}
use Rattle.std.specs.Prelude.{Vec}
use Rattle.std.specs.Cmp.{IsTotalOrder}
use Rattle.std.specs.Ordering.{eq_by_cmp}
use Rattle.std.specs.List.{IsDistinct, filter}
use Rattle.std.specs.FinMap.{IsAntisymmetric}
use Rattle.sqlite_value.specs.Order.{Row}
use Rattle.sqlite_schema.specs.declared.schema.Schema.{Schema}
use Rattle.sqlite.specs.Term.{Term}
use Rattle.sqlite.specs.declared.error.Error.{Error}
use Rattle.sqlite.specs.State.{State, Shown}
use Rattle.dh_model.specs.Whole.{rows_where}
use Rattle.dh_sql.specs.Shape.{Shape, IsKept, rows_in, rows_of, shown_keys, stored_in}
use Rattle.dh_sql.specs.Queries.{passes_all, shows}
use Rattle.dh_sql.specs.Texts.{IsSelectText}
use Rattle.dh_sql.proofs.Found.{found_once, found_where}
use Rattle.dh_sql.proofs.Lists.{all_of, map_same}
use Rattle.dh_sql.proofs.Selecting.{shows_rows}

module _ {K X : Type 0} {R : K → K → Ordering} (o : IsTotalOrder R) (anti : IsAntisymmetric R) (it : Shape K X) (text : List ℕ) (schema : Schema)
    (tests project : List Term) (names : List (List ℕ)) (params : Row) (test : X → Bool)
    (is : IsSelectText text schema it.tree tests project [] names)
    (columns : (r : Row) → shows project params r ≡ it.columns r)
    (passes : (r : Row) → it.is_row (it.columns r) ≡ true → passes_all params tests r ≡ test (stored_in it r)) where
  module _ (old new : State) (has : old.now.schema ≡ schema) (kept : IsKept it R old.now.trees) where
    moved : (rows : List Row) → Shown text params old new rows → IsPermutation (map it.columns (filter (passes_all params tests) (old.now.trees it.tree))) rows
    moved rows h =
        let shown = shows_rows text schema it.tree tests project [] names params is old new rows has h in
        let listed = map_same (shows project params) it.columns columns (filter (passes_all params tests) (old.now.trees it.tree)) in
        subst (λ xs. IsPermutation xs rows) listed shown

    -- they are the records of which the question asks
    pub asked : (r : Result (Vec Row Global) Error) → IfOk r (λ rows. Shown text params old new rows.items)
        → IfOk r (λ rows. rows_of it {R = R} rows.items ≡ rows_where test (rows_in it old.now.trees))
    asked (Err e) h = tt
    asked (Ok rows) h =
        let agree = all_of _ _ passes (old.now.trees it.tree) kept.values in
        found_where o anti it old.now.trees kept (passes_all params tests) rows.items (moved rows.items h) test agree

    -- none twice
    pub asked_once : (r : Result (Vec Row Global) Error) → IfOk r (λ rows. Shown text params old new rows.items)
        → IfOk r (λ rows. IsDistinct (eq_by_cmp R) (shown_keys it rows.items))
    asked_once (Err e) h = tt
    asked_once (Ok rows) h = found_once o anti it old.now.trees kept (passes_all params tests) rows.items (moved rows.items h)

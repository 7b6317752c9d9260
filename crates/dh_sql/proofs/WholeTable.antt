-- What a SELECT of all rows of a table shows, and what its rows tell of the table.
use Rattle.std.proofs.Common.{◌≡◌, ◌∙◌, refl, sym, ap, subst, ℕ, ℤ, true, is_eq, List, [], ◌∷◌, map, length, Result, Ok, Err, IfOk, IsPermutation}
use Rattle.std.specs.Prelude.{Vec}
use Rattle.std.specs.declared.alloc.Global.{Global}
use Rattle.std.specs.declared.cmp.Ordering.{Ordering}
use Rattle.std.specs.Ordering.{eq_by_cmp, int_cmp}
use Rattle.std.specs.List.{AllByRecursion, IsDistinct, filter}
use Rattle.std.specs.Map.{keys_of}
use Rattle.std.specs.Cmp.{IsTotalOrder, eq_by_cmp_equiv}
use Rattle.std.specs.FinMap.{IsAntisymmetric, empty, int_cmp-IsAntisymmetric, len}
use Rattle.std.proofs.lemmas.Cmp.{int_cmp_total, tied_itself}
use Rattle.std.proofs.lemmas.List.Sorted.{IsPermutation-map, IsPermutation-sym}
use Rattle.std.proofs.lemmas.Map.Keys.{IsDistinct-IsPermutation}
use Rattle.sqlite_value.specs.declared.value.Value.TheVariants.{Int}
use Rattle.sqlite_value.specs.Order.{Row, value_cmp}
use Rattle.sqlite_value.proofs.OrderLemmas.{value_cmp-Int}
use Rattle.sqlite_trees.specs.Tree.{Trees, rowid}
use Rattle.sqlite_trees.specs.View.{is_int}
use Rattle.sqlite_trees.proofs.ListLemmas.{all-map, all-permutation, all_from_map, map-map}
use Rattle.sqlite_schema.specs.declared.schema.Schema.{Schema}
use Rattle.sqlite_rules.specs.Edit.{id_in}
use Rattle.sqlite_rules.proofs.TableLemmas.{int_is}
use Rattle.sqlite.specs.Term.{Term}
use Rattle.sqlite.specs.State.{State, Shown}
use Rattle.sqlite.specs.declared.error.Error.{Error}
use Rattle.dh_sql.specs.Gathered.{put_rows}
use Rattle.dh_sql.specs.Queries.{passes_all, shows}
use Rattle.dh_sql.specs.Shape.{AreApart, IsStored, Shape, entry_in, rows_in, rows_of, shown_keys, stored_in, under_key}
use Rattle.dh_sql.specs.Texts.{IsSelectText}
use Rattle.dh_sql.proofs.Comparing.{is_tie}
use Rattle.dh_sql.proofs.Doubles.{no_doubles}
use Rattle.dh_sql.proofs.Lists.{has_all, map_same, one_of_key}
use Rattle.dh_sql.proofs.Maps.{from_permutation}
use Rattle.dh_sql.proofs.Selecting.{shows_rows}
use Rattle.dh_sql.proofs.Slices.{put_alone}

pub no_tests : (rows : List Row) → filter (passes_all [] []) rows ≡ rows
no_tests [] = refl
no_tests (r ∷ rows) = ap (λ rs. r ∷ rs) (no_tests rows)

module _ (text : List ℕ) (schema : Schema) (tree : ℕ) (project : List Term) (names : List (List ℕ))
    (is : IsSelectText text schema tree [] project [] names) (shown : Row → Row) (same : (r : Row) → shows project [] r ≡ shown r) where
  -- each row of the table, in some order
  pub shows_all : (old new : State) → old.now.schema ≡ schema → (r : Result (Vec Row Global) Error)
      → IfOk r (λ rows. Shown text [] old new rows.items) → IfOk r (λ rows. IsPermutation (map shown (old.now.trees tree)) rows.items)
  shows_all old new has (Err e) h = tt
  shows_all old new has (Ok rows) h =
      let all = old.now.trees tree in
      let some = shows_rows text schema tree [] project [] names [] is old new rows.items has h in
      let each = subst (λ few. IsPermutation (map (shows project []) few) rows.items) (no_tests all) some in
      subst (λ xs. IsPermutation xs rows.items) (map_same (shows project []) shown same all) each

-- ---- the columns of all rows

module _ {K X : Type 0} (it : Shape K X) (trees : Trees) (rows : List Row) (perm : IsPermutation (map it.columns (trees it.tree)) rows) where
  abbrev IsGood : Row → Type 0
  IsGood row = it.is_row row ≡ true

  abbrev all_rows : List Row
  all_rows = trees it.tree

  pub all_stored : AllByRecursion (λ row. it.is_row row ≡ true) rows → AllByRecursion (IsStored it) (trees it.tree)
  all_stored good =
      all_from_map IsGood it.columns all_rows (all-permutation IsGood rows (map it.columns all_rows) (IsPermutation-sym _ _ perm) good)

  pub all_good : AllByRecursion (IsStored it) (trees it.tree) → AllByRecursion (λ row. it.is_row row ≡ true) rows
  all_good stored = all-permutation IsGood (map it.columns all_rows) rows perm (all-map IsGood it.columns all_rows stored)

  module _ {R : K → K → Ordering} (o : IsTotalOrder R) (anti : IsAntisymmetric R) where
    keys_once : IsDistinct (eq_by_cmp R) (shown_keys it rows) → IsDistinct (eq_by_cmp R) (map (λ r. it.key (stored_in it r)) (trees it.tree))
    keys_once once =
        let key : Row → K = λ row. it.key (it.row_in row) in
        let moved = IsPermutation-sym _ _ (IsPermutation-map key (map it.columns all_rows) rows perm) in
        subst (IsDistinct (eq_by_cmp R)) (map-map key it.columns all_rows) (IsDistinct-IsPermutation (eq_by_cmp R) (eq_by_cmp_equiv o).symm _ _ moved once)

    records_are : IsDistinct (eq_by_cmp R) (shown_keys it rows) → rows_of it {R = R} rows ≡ rows_in it trees
    records_are once =
        let entry : Row → K × X = λ row. under_key it (it.row_in row) in
        let es = map (entry_in it) all_rows in
        let moved : IsPermutation es (map entry rows) =
        subst (λ fs. IsPermutation fs (map entry rows)) (map-map entry it.columns all_rows) (IsPermutation-map entry (map it.columns all_rows) rows perm) in
        let keys : IsDistinct (eq_by_cmp R) (keys_of es) = rw (map-map (λ (e : K × X). e.0) (entry_in it) all_rows) (keys_once once) in
        from_permutation o anti es (map entry rows) moved keys

    -- where they make a map of as many records, no key is there twice, and the map is the table's
    pub all_once : len (put_rows it rows (empty {R = R})) ≡ length rows → IsDistinct (eq_by_cmp R) (map (λ r. it.key (stored_in it r)) (trees it.tree))
    all_once size = keys_once (no_doubles o it rows size)

    pub all_put : len (put_rows it rows (empty {R = R})) ≡ length rows → put_rows it rows (empty {R = R}) ≡ rows_in it trees
    all_put size = let once = no_doubles o it rows size in put_alone o anti it rows once ∙ records_are once

-- ---- the rowids of all rows

module _ (rows ids : List Row) (perm : IsPermutation (map (λ r. rowid r ∷ []) rows) ids) (whole : AllByRecursion (λ row. is_int (rowid row) ≡ true) ids) where
  pub whole_rowids : AllByRecursion (λ r. is_int (rowid r) ≡ true) rows
  whole_rowids =
      all_from_map (λ row. is_int (rowid row) ≡ true) (λ r. rowid r ∷ []) rows
      (all-permutation (λ row. is_int (rowid row) ≡ true) ids (map (λ r. rowid r ∷ []) rows) (IsPermutation-sym _ _ perm) whole)

  -- where none is there twice, each is of one row
  pub own_rowids : IsDistinct (eq_by_cmp int_cmp) (map (λ row. id_in (rowid row)) ids) → AreApart rows
  own_rowids once x y hx hy tied =
      let id : Row → ℤ = λ r. id_in (rowid r) in
      let moved = IsPermutation-sym _ _ (IsPermutation-map id (map (λ r. rowid r ∷ []) rows) ids perm) in
      let here : IsDistinct (eq_by_cmp int_cmp) (map id rows) =
      subst (IsDistinct (eq_by_cmp int_cmp)) (map-map id (λ r. rowid r ∷ []) rows)
      (IsDistinct-IsPermutation (eq_by_cmp int_cmp) (eq_by_cmp_equiv int_cmp_total).symm _ _ moved once) in
      let of_y = int_is (rowid y) (has_all (λ r. is_int (rowid r) ≡ true) rows y whole_rowids hy) in
      let told : is_eq (value_cmp (Int (id y)) (Int (id x))) ≡ true = subst (λ v. is_eq (value_cmp v (Int (id x))) ≡ true) of_y tied in
      let both = is_tie (int_cmp (id y) (id x)) (sym (ap is_eq (value_cmp-Int (id y) (id x))) ∙ told) in
      one_of_key (eq_by_cmp int_cmp) (λ k. ap is_eq (tied_itself int_cmp_total k)) id rows here x y hx hy (sym (int_cmp-IsAntisymmetric (id y) (id x) both))

-- What a SELECT of some rows of a table finds, as records by their keys.
use Rattle.std.proofs.Common.{◌≡◌, ◌∙◌, refl, sym, ap, subst, Bool, true, cond, List, [], ◌∷◌, map, Option, Some, None, IsPermutation}
use Rattle.std.specs.declared.cmp.Ordering.{Ordering}
use Rattle.std.specs.Ordering.{eq_by_cmp}
use Rattle.std.specs.List.{AllByRecursion, IsDistinct, filter}
use Rattle.std.specs.Map.{keys_of, lookup}
use Rattle.std.specs.Cmp.{IsTotalOrder, eq_by_cmp_equiv}
use Rattle.std.specs.FinMap.{FinMap, IsAntisymmetric, find, from_entries, get, get-from_entries, same_map}
use Rattle.std.proofs.lemmas.List.Sorted.{IsPermutation-map}
use Rattle.std.proofs.lemmas.Map.Entries.{lookup-filter-values, option_filter}
use Rattle.std.proofs.lemmas.Map.Keys.{IsDistinct-IsPermutation}
use Rattle.std.proofs.lemmas.Map.Made.{IsDistinct-keys_filter}
use Rattle.sqlite_trees.proofs.ListLemmas.{filter-map, filter_same, map-map}
use Rattle.sqlite_value.specs.Order.{Row}
use Rattle.sqlite_trees.specs.Tree.{Trees}
use Rattle.dh_model.specs.Whole.{rows_where}
use Rattle.dh_model.proofs.Among.{in_map}
use Rattle.dh_model.proofs.MapRows.{found_entry, kept_if}
use Rattle.dh_laws.proofs.MapMerges.{get-rows_where}
use Rattle.dh_model.specs.Books.{StandUnder}
use Rattle.dh_sql.specs.Shape.{Shape, IsKept, entry_in, rows_in, rows_of, shown_keys, stored_in, under_key}
use Rattle.dh_sql.proofs.Maps.{from_permutation}

module _ {K X : Type 0} {R : K → K → Ordering} (o : IsTotalOrder R) (anti : IsAntisymmetric R) where
  find-lookup : (es : List (K × X)) (q : K) → find R q es ≡ lookup (eq_by_cmp R q) es
  find-lookup [] q = refl
  find-lookup (e ∷ es) q = ap (cond (eq_by_cmp R q e.0) (Some e.1)) (find-lookup es q)

  one_test : (t : X → Bool) (found : Option X) → option_filter t found ≡ kept_if t found
  one_test t None = refl
  one_test t (Some x) = refl

  -- the map of the entries that pass is what passes of their map
  where_filtered : (t : X → Bool) (es : List (K × X)) → IsDistinct (eq_by_cmp R) (keys_of es)
      → from_entries {R = R} (filter (λ e. t e.1) es) ≡ rows_where t (from_entries es)
  where_filtered t es distinct = same_map o anti _ _ (λ q.
      get-from_entries o (filter (λ e. t e.1) es) q ∙ find-lookup (filter (λ e. t e.1) es) q ∙ lookup-filter-values (eq_by_cmp_equiv o) t q es distinct
      ∙ ap (option_filter t) (sym (find-lookup es q) ∙ sym (get-from_entries o es q)) ∙ one_test t (get (from_entries es) q)
      ∙ sym (get-rows_where o anti t (from_entries es) q))

  same_if : (t : X → Bool) (k : K) (key : X → K) (found : Option X) → ((x : X) → found ≡ Some x → key x ≡ k) → ((x : X) → key x ≡ k → t x ≡ true)
      → kept_if t found ≡ found
  same_if t k key None keyed covers = refl
  same_if t k key (Some x) keyed covers = ap (λ b. cond b (Some x) None) (covers x (keyed x refl))

  -- a test that the records of the key pass finds what the map has there
  pub get_where : (t : X → Bool) (key : X → K) (m : FinMap R X) (q : K) → StandUnder key m → ((x : X) → key x ≡ q → t x ≡ true)
      → get (rows_where t m) q ≡ get m q
  get_where t key m q keyed covers = get-rows_where o anti t m q ∙ same_if t q key (get m q) (keyed q) covers

  module _ (it : Shape K X) (trees : Trees) (kept : IsKept it R trees) where
    keys_are : IsDistinct (eq_by_cmp R) (keys_of (map (entry_in it) (trees it.tree)))
    keys_are = rw (map-map (λ (e : K × X). e.0) (entry_in it) (trees it.tree)) kept.keys

    module _ (passes : Row → Bool) (rows : List Row) (perm : IsPermutation (map it.columns (filter passes (trees it.tree))) rows) where
      -- the rows found, in whatever order, are the records that pass
      pub found_where : (t : X → Bool) → AllByRecursion (λ r. passes r ≡ t (stored_in it r)) (trees it.tree)
          → rows_of it {R = R} rows ≡ rows_where t (rows_in it trees)
      found_where t agree =
          let all = trees it.tree in
          let es = map (entry_in it) all in
          let entry : Row → K × X = λ row. under_key it (it.row_in row) in
          let passing : filter passes all ≡ filter (λ r. t (stored_in it r)) all = filter_same _ (λ r. t (stored_in it r)) all agree in
          let listed : map entry (map it.columns (filter passes all)) ≡ filter (λ e. t e.1) es =
          map-map entry it.columns (filter passes all) ∙ ap (map (entry_in it)) passing ∙ sym (filter-map (λ (e : K × X). t e.1) (entry_in it) all) in
          let moved : IsPermutation (filter (λ e. t e.1) es) (map entry rows) =
          subst (λ fs. IsPermutation fs (map entry rows)) listed (IsPermutation-map entry _ rows perm) in
          let few = IsDistinct-keys_filter (eq_by_cmp R) (λ e. t e.1) es keys_are in
          from_permutation o anti (filter (λ e. t e.1) es) (map entry rows) moved few ∙ where_filtered t es keys_are

      -- and none is there twice
      pub found_once : IsDistinct (eq_by_cmp R) (shown_keys it rows)
      found_once =
          let all = trees it.tree in
          let by : Row → K × Row = λ r. (it.key (stored_in it r), r) in
          let keys : IsDistinct (eq_by_cmp R) (keys_of (map by all)) = rw (map-map (λ (e : K × Row). e.0) by all) kept.keys in
          let some = IsDistinct-keys_filter (eq_by_cmp R) (λ (e : K × Row). passes e.1) (map by all) keys in
          let listed = ap keys_of (filter-map (λ (e : K × Row). passes e.1) by all) ∙ map-map (λ (e : K × Row). e.0) by (filter passes all)
          ∙ sym (map-map (λ row. it.key (it.row_in row)) it.columns (filter passes all)) in
          let theirs = subst (IsDistinct (eq_by_cmp R)) listed some in
          IsDistinct-IsPermutation (eq_by_cmp R) (eq_by_cmp_equiv o).symm _ _ (IsPermutation-map (λ row. it.key (it.row_in row)) _ _ perm) theirs

  -- each record stands under its key
  pub keyed_rows : (it : Shape K X) (trees : Trees) → StandUnder it.key (rows_in it {R = R} trees)
  keyed_rows it trees k x h =
      let es = map (entry_in it) (trees it.tree) in
      let of = in_map (entry_in it) (trees it.tree) (k, x) (found_entry o anti es k x (sym (get-from_entries o es k) ∙ h)) in
      ap (λ (e : K × X). it.key e.1) of.2 ∙ sym (ap (λ (e : K × X). e.0) of.2)

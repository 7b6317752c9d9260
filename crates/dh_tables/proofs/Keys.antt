-- Rows of which each has a key of its own make a map of as many records.
use Rattle.std.proofs.Common.{◌≡◌, ◌∙◌, ◌+◌, sym, ap, subst, Bool, true, false, cond}
use Rattle.std.proofs.Common.{List, [], ◌∷◌, map, length, Option, Some, is_some, true≢false, arith}
use Rattle.std.proofs.Common.{IsPermutation}
use Rattle.std.specs.declared.cmp.Ordering.{Ordering}
use Rattle.std.specs.Ordering.{eq_by_cmp}
use Rattle.std.specs.List.{AllByRecursion, IsDistinct}
use Rattle.std.specs.Cmp.{IsTotalOrder, eq_by_cmp_equiv}
use Rattle.std.specs.FinMap.{FinMap, contains_key, empty, get, get-empty, get-insert, insert, len, len-empty, len-insert}
use Rattle.std.proofs.lemmas.List.Sorted.{IsPermutation-map}
use Rattle.std.proofs.lemmas.Map.Keys.{IsDistinct-IsPermutation}
use Rattle.sqlite_value.specs.Order.{Row}
use Rattle.sqlite_trees.specs.Tree.{Trees}
use Rattle.sqlite_trees.proofs.ListLemmas.{map-map}
use Rattle.dh_sql.specs.Shape.{Shape, shown_keys}
use Rattle.dh_sql.specs.Gathered.{put_rows}
use Rattle.dh_tables.specs.Listing.{HasUniqueKeys}

module _ {K X : Type 0} {R : K → K → Ordering} (o : IsTotalOrder R) (it : Shape K X) where
  abbrev key_of : Row → K
  key_of row = it.key (it.row_in row)

  abbrev AreMissing : FinMap R X → List Row → Type 0
  AreMissing m rows = AllByRecursion (λ j. contains_key m j ≡ false) (shown_keys it rows)

  neither : (b : Bool) (x : X) (found : Option X) → b ≡ false → is_some found ≡ false → is_some (cond b (Some x) found) ≡ false
  neither true x found h none = absurd (true≢false h)
  neither false x found h none = none

  still_missing : (k : K) (x : X) (m : FinMap R X) (rows : List Row) → AllByRecursion (λ j. eq_by_cmp R k j ≡ false) (shown_keys it rows)
      → AreMissing m rows → AreMissing (insert m k x) rows
  still_missing k x m [] others h = tt
  still_missing k x m (r ∷ rows) others h =
      let other = (eq_by_cmp_equiv o).symm (key_of r) k ∙ others.0 in (
        ap is_some (get-insert o m k x (key_of r)) ∙ neither (eq_by_cmp R (key_of r) k) x (get m (key_of r)) other h.0,
        still_missing k x m rows others.1 h.1,
      )

  each_counts : (rows : List Row) (m : FinMap R X) → IsDistinct (eq_by_cmp R) (shown_keys it rows) → AreMissing m rows
      → len (put_rows it rows m) ≡ len m + length rows
  unfolding IsDistinct
  each_counts [] m once h = omega arith
  each_counts (r ∷ rows) m once h =
      let k = key_of r in
      let x = it.row_in r in
      let one : len (insert m k x) ≡ len m + 1 = len-insert o m k x ∙ ap (λ b. cond b (len m) (len m + 1)) h.0 in
      let rest = each_counts rows (insert m k x) once.1 (still_missing k x m rows once.0 h.1) in
      omega (arith, rest, one)

  none_yet : (rows : List Row) → AreMissing empty rows
  none_yet [] = tt
  none_yet (r ∷ rows) = (ap is_some (get-empty R (key_of r)), none_yet rows)

  one_each : (rows : List Row) → IsDistinct (eq_by_cmp R) (shown_keys it rows) → len (put_rows it rows (empty {R = R})) ≡ length rows
  one_each rows once = let all = each_counts rows empty once (none_yet rows) in omega (arith, all, len-empty R X)

  -- the columns of all rows of a table, in some order
  pub one_a_row : (trees : Trees) (rows : List Row) → IsPermutation (map it.columns (trees it.tree)) rows → HasUniqueKeys it R trees
      → len (put_rows it rows (empty {R = R})) ≡ length rows
  one_a_row trees rows perm once =
      let columns = map it.columns (trees it.tree) in
      let shown : IsDistinct (eq_by_cmp R) (shown_keys it columns) = subst (IsDistinct (eq_by_cmp R)) (sym (map-map key_of it.columns (trees it.tree))) once in
      one_each rows (IsDistinct-IsPermutation (eq_by_cmp R) (eq_by_cmp_equiv o).symm _ _ (IsPermutation-map key_of columns rows perm) shown)

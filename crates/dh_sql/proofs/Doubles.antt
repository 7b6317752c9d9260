-- Rows of which each has a key of its own are told by the length of their map.
use Rattle.std.proofs.Common.{◌≡◌, ◌∙◌, ◌≤◌, ◌+◌, inl, inr, refl, sym, ap, ℕ, Bool, true, false, cond, List, [], ◌∷◌, length, Option, Some, is_some, arith}
use Rattle.std.proofs.lemmas.Bool.{cases_Bool}
use Rattle.std.specs.declared.cmp.Ordering.{Ordering}
use Rattle.std.specs.Ordering.{eq_by_cmp}
use Rattle.std.specs.List.{AllByRecursion, IsDistinct}
use Rattle.std.specs.Cmp.{IsTotalOrder, eq_by_cmp_equiv}
use Rattle.std.specs.FinMap.{FinMap, contains_key, empty, get, get-insert, insert, len, len-empty, len-insert}
use Rattle.sqlite_value.specs.Order.{Row}
use Rattle.dh_sql.specs.Shape.{Shape, shown_keys}
use Rattle.dh_sql.specs.Gathered.{put_rows}

module _ {K X : Type 0} {R : K → K → Ordering} (o : IsTotalOrder R) (it : Shape K X) where
  abbrev key_of : Row → K
  key_of row = it.key (it.row_in row)

  grown : (b : Bool) (n : ℕ) → cond b n (n + 1) ≤ n + 1
  grown true n = omega arith
  grown false n = omega arith

  most : (rows : List Row) (m : FinMap R X) → len (put_rows it rows m) ≤ len m + length rows
  most [] m = omega arith
  most (r ∷ rows) m =
      let more = insert m (key_of r) (it.row_in r) in
      omega (arith, most rows more, len-insert o m (key_of r) (it.row_in r), grown (contains_key m (key_of r)) (len m))

  -- none of two that are both missing
  both : (b : Bool) (x : X) (found : Option X) → is_some (cond b (Some x) found) ≡ false → (b ≡ false) × (is_some found ≡ false)
  both true x found h = cc
  both false x found h = (refl, h)

  abbrev AreMissing : FinMap R X → List Row → Type 0
  AreMissing m rows = AllByRecursion (λ j. contains_key m j ≡ false) (shown_keys it rows)

  split : (k : K) (x : X) (m : FinMap R X) (rows : List Row) → AreMissing (insert m k x) rows
      → AllByRecursion (λ j. eq_by_cmp R k j ≡ false) (shown_keys it rows) × AreMissing m rows
  split k x m [] h = (tt, tt)
  split k x m (r ∷ rows) h =
      let here = both (eq_by_cmp R (key_of r) k) x (get m (key_of r)) (ap is_some (sym (get-insert o m k x (key_of r))) ∙ h.0) in
      let rest = split k x m rows h.1 in
      (((eq_by_cmp_equiv o).symm k (key_of r) ∙ here.0, rest.0), (here.1, rest.1))

  apart : (rows : List Row) (m : FinMap R X) → len (put_rows it rows m) ≡ len m + length rows
      → AreMissing m rows × IsDistinct (eq_by_cmp R) (shown_keys it rows)
  unfolding IsDistinct
  apart [] m h = (tt, tt)
  apart (r ∷ rows) m h =
      let k = key_of r in
      let x = it.row_in r in
      let few = most rows (insert m k x) in
      let size = len-insert o m k x in
      elim (cases_Bool (contains_key m k)) [
        | inl there ↦ absurd (let same : len (insert m k x) ≡ len m = size ∙ ap (λ b. cond b (len m) (len m + 1)) there in omega (arith, h, few, same))
        | inr new ↦
            let same : len (insert m k x) ≡ len m + 1 = size ∙ ap (λ b. cond b (len m) (len m + 1)) new in
            let rest = apart rows (insert m k x) (omega (arith, h, same)) in
            let parts = split k x m rows rest.0 in
            ((new, parts.1), (parts.0, rest.1))
      ]

  -- as many as there are rows: no key stands twice
  pub no_doubles : (rows : List Row) → len (put_rows it rows (empty {R = R})) ≡ length rows → IsDistinct (eq_by_cmp R) (shown_keys it rows)
  no_doubles rows h = (apart rows empty (omega (arith, h, len-empty R X))).1

-- Rows of which each has a rowid of its own, with one row more.
use Rattle.std.proofs.Common.{◌≡◌, ◌⊎◌, ◌∙◌, inl, inr, sym, subst, true, false, List, [], ◌∷◌, IsPermutation, true≢false, is_eq}
use Rattle.std.specs.List.{AllByRecursion}
use Rattle.std.specs.Cmp.{eq_by_cmp_equiv}
use Rattle.std.proofs.lemmas.Cmp.{tied_itself}
use Rattle.std.proofs.lemmas.List.Sorted.{Contains-permutation, IsPermutation-sym}
use Rattle.sqlite_value.specs.Order.{Row, value_cmp}
use Rattle.sqlite_value.proofs.OrderLemmas.{value_cmp_total}
use Rattle.sqlite_trees.specs.Tree.{has_rowid, rowid}
use Rattle.sqlite_trees.specs.View.{is_int}
use Rattle.sqlite_rules.specs.Edit.{id_in, is_taken}
use Rattle.sqlite_rules.specs.Lists.{Has}
use Rattle.sqlite_rules.proofs.ListLemmas.{contains_had, has_contained}
use Rattle.sqlite_rules.proofs.TableLemmas.{int_is}
use Rattle.dh_sql.specs.Shape.{AreApart}
use Rattle.dh_sql.proofs.Lists.{has_all}
use Rattle.dh_sql.proofs.Running.{or_left, or_right}

pub turn : (xs ys : List Row) (x : Row) → IsPermutation xs ys → Has ys x → Has xs x
turn xs ys x p h = has_contained xs x (Contains-permutation ys xs x (IsPermutation-sym xs ys p) (contains_had ys x h))

pub own_rowid : (r : Row) → is_int (rowid r) ≡ true → has_rowid (id_in (rowid r)) r ≡ true
own_rowid r h = rw (← int_is (rowid r) h, tied_itself value_cmp_total (rowid r))

-- of two rows, either has the other's rowid or neither has
swapped : (x y : Row) → is_int (rowid x) ≡ true → is_int (rowid y) ≡ true → has_rowid (id_in (rowid x)) y ≡ has_rowid (id_in (rowid y)) x
swapped x y ix iy = rw (← int_is (rowid x) ix, ← int_is (rowid y) iy) ((eq_by_cmp_equiv value_cmp_total).symm (rowid y) (rowid x))

module _ (rest news : List Row) (s : Row) (is : IsPermutation (s ∷ rest) news) (own : is_int (rowid s) ≡ true)
    (ints : AllByRecursion (λ r. is_int (rowid r) ≡ true) rest) (others : AllByRecursion (λ r. has_rowid (id_in (rowid s)) r ≡ false) rest) where
  not_its : (r : Row) → Has rest r → has_rowid (id_in (rowid s)) r ≡ true → ⊥
  not_its r there its = true≢false (sym its ∙ has_all (λ r. has_rowid (id_in (rowid s)) r ≡ false) rest r others there)

  -- one row more, whose rowid is of no other
  pub apart_with : AreApart rest → AreApart news
  apart_with apart x y hx hy e = by (turn (s ∷ rest) news x is hx) (turn (s ∷ rest) news y is hy)
    where
      by : (x ≡ s) ⊎ Has rest x → (y ≡ s) ⊎ Has rest y → x ≡ y
      by (inl p) (inl q) = p ∙ sym q
      by (inl p) (inr q) = absurd (not_its y q (subst (λ (z : Row). has_rowid (id_in (rowid z)) y ≡ true) p e))
      by (inr p) (inl q) =
          let here : has_rowid (id_in (rowid x)) s ≡ true = subst (λ (z : Row). has_rowid (id_in (rowid x)) z ≡ true) q e in
          let int_x = has_all (λ r. is_int (rowid r) ≡ true) rest x ints p in
          absurd (not_its x p (sym (swapped x s int_x own) ∙ here))
      by (inr p) (inr q) = apart x y p q e

-- a rowid that is not taken is of no row
pub none_taken : (s : Row) (rows : List Row) → is_int (rowid s) ≡ true → is_taken rows s ≡ false
    → AllByRecursion (λ r. has_rowid (id_in (rowid s)) r ≡ false) rows
none_taken s [] own free = tt
none_taken s (r ∷ rows) own free =
    (subst (λ v. is_eq (value_cmp (rowid r) v) ≡ false) (int_is (rowid s) own) (or_left _ _ free), none_taken s rows own (or_right _ _ free))

-- Whole numbers that were read from rows.
use Rattle.std.proofs.Common.{◌≡◌, ◌∙◌, refl, sym, ap, subst, ℤ, pos, ◌<ℤ◌, ◌<◌, ◌+◌, ℕ, Bool, true, false, cond, List}
use Rattle.std.proofs.Common.{map, map-id, length, get_or, IsPermutation, Less, Equal, Greater, is_eq, true≢false, arith}
use Rattle.std.specs.Prelude.{T, int_lt}
use Rattle.std.specs.declared.cmp.Ordering.{Ordering}
use Rattle.std.specs.Ordering.{eq_by_cmp, int_cmp, is_lt}
use Rattle.std.specs.List.{AllByRecursion, IsDistinct}
use Rattle.std.specs.List.Sorted.{IsSorted, IsStrictlySortedBy}
use Rattle.std.specs.Cmp.{eq_by_cmp_equiv}
use Rattle.std.proofs.lemmas.Cmp.{int_cmp_total, int_ranked}
use Rattle.std.proofs.lemmas.List.Sorted.{IsPermutation-sym}
use Rattle.std.proofs.lemmas.Map.Keys.{IsDistinct-IsPermutation, IsDistinct-from_sorted, Less-from_sorted, apart_from_distinct, sorted_from_all_adjacent}
use Rattle.sqlite_value.specs.declared.value.Value.{Value}
use Rattle.sqlite_value.specs.declared.value.Value.TheVariants.{Int}
use Rattle.sqlite_value.specs.Order.{Row}
use Rattle.sqlite_trees.specs.Tree.{rowid}
use Rattle.sqlite_trees.specs.View.{is_int}
use Rattle.sqlite_trees.proofs.ListLemmas.{all-map, all_from_map, all_of, map-map}
use Rattle.sqlite_rules.specs.Edit.{id_in}
use Rattle.dh_tables.specs.Listing.{AreNumbered}

-- ---- numbers that rise

is_so : (b : Bool) → T b → b ≡ true
is_so true h = refl
is_so false h = absurd h

below : (x y : ℤ) → x <ℤ y → int_cmp x y ≡ Less
below x y h = ap (λ b. cond b Less (cond (int_lt y x) Greater Equal)) (is_so (int_lt x y) h.lt)

-- of two that are in order and are not the same
climbs : (x y : ℤ) → is_lt (int_cmp y x) ≡ false → eq_by_cmp int_cmp x y ≡ false → int_cmp x y ≡ Less
climbs x y up apart = by (int_cmp x y) refl
  where
    by : (r : Ordering) → r ≡ int_cmp x y → int_cmp x y ≡ Less
    by Less e = sym e
    by Equal e = absurd (true≢false (ap is_eq e ∙ apart))
    by Greater e = let lower : y <ℤ x = int_ranked x y Greater e in absurd (true≢false (sym (ap is_lt (below y x lower)) ∙ up))

pub rises : (numbers : List ℤ) → ((k : ℕ) → k + 1 < length numbers → get_or numbers k (pos 0) <ℤ get_or numbers (k + 1) (pos 0))
    → IsStrictlySortedBy int_cmp numbers
rises numbers h = sorted_from_all_adjacent int_cmp_total numbers (pos 0) (λ k low. below (get_or numbers k (pos 0)) (get_or numbers (k + 1) (pos 0)) (h k low))

pub rise_at : (numbers : List ℤ) (k : ℕ) → IsStrictlySortedBy int_cmp numbers → k + 1 < length numbers
    → get_or numbers k (pos 0) <ℤ get_or numbers (k + 1) (pos 0)
rise_at numbers k up low =
    let x = get_or numbers k (pos 0) in
    let y = get_or numbers (k + 1) (pos 0) in
    int_ranked x y Less (sym (Less-from_sorted int_cmp numbers k (k + 1) (pos 0) up (omega arith) low))

-- ---- the numbers that rows show first

module _ (numbers : List ℤ) (rows : List Row) (is : map Int numbers ≡ map rowid rows) where
  whole : AllByRecursion (λ row. is_int (rowid row) ≡ true) rows
  whole =
      let IsWhole : Value → Type 0 = λ v. is_int v ≡ true in
      all_from_map IsWhole rowid rows (subst (AllByRecursion IsWhole) is (all-map IsWhole Int numbers (all_of (λ n. IsWhole (Int n)) (λ n. refl) numbers)))

  read_back : numbers ≡ map (λ row. id_in (rowid row)) rows
  read_back = sym (map-id numbers) ∙ sym (map-map id_in Int numbers) ∙ ap (map id_in) is ∙ map-map id_in rowid rows

  -- where they rise once they are sorted, none is there twice
  pub numbered : (sorted : List ℤ) → IsPermutation numbers sorted → IsStrictlySortedBy int_cmp sorted → AreNumbered rows
  numbered sorted perm rises =
      let once = IsDistinct-from_sorted int_cmp sorted rises in
      let flips = (eq_by_cmp_equiv int_cmp_total).symm in
      let back = IsDistinct-IsPermutation (eq_by_cmp int_cmp) flips sorted numbers (IsPermutation-sym numbers sorted perm) once in
      record { whole = whole; once = subst (IsDistinct (eq_by_cmp int_cmp)) read_back back }

  -- and where none is there twice, they rise
  pub still_rise : (sorted : List ℤ) → IsPermutation numbers sorted → IsSorted int_cmp sorted → AreNumbered rows → IsStrictlySortedBy int_cmp sorted
  still_rise sorted perm up are =
      let flips = (eq_by_cmp_equiv int_cmp_total).symm in
      let here = subst (IsDistinct (eq_by_cmp int_cmp)) (sym read_back) are.once in
      let once = IsDistinct-IsPermutation (eq_by_cmp int_cmp) flips numbers sorted perm here in
      sorted_from_all_adjacent int_cmp_total sorted (pos 0) (λ k low.
      climbs (get_or sorted k (pos 0)) (get_or sorted (k + 1) (pos 0)) (up k (pos 0) (omega arith) low)
      (apart_from_distinct (eq_by_cmp int_cmp) sorted k (k + 1) (pos 0) once (omega arith) low))

-- What the rows of a whole table and its rowids tell of the books that they were put into.
use Rattle.std.proofs.Common.{◌≡◌, ◌∙◌, sym, ap, subst, ℤ, Bool, true, List, map, length, IsPermutation}
use Rattle.std.specs.declared.cmp.Ordering.{Ordering}
use Rattle.std.specs.Cmp.{IsTotalOrder, eq_by_cmp_equiv}
use Rattle.std.specs.List.{AllByRecursion, IsDistinct}
use Rattle.std.specs.Ordering.{eq_by_cmp, int_cmp}
use Rattle.std.specs.FinMap.{FinMap, IsAntisymmetric, empty, entries, len, len-entries, values}
use Rattle.std.proofs.lemmas.Cmp.{int_cmp_total}
use Rattle.std.proofs.lemmas.List.Sorted.{IsPermutation-map}
use Rattle.std.proofs.lemmas.Map.Entries.{length-values_of}
use Rattle.std.proofs.lemmas.Map.Keys.{IsDistinct-IsPermutation}
use Rattle.sqlite_value.specs.Order.{Row}
use Rattle.sqlite_trees.specs.Tree.{Trees, rowid}
use Rattle.sqlite_trees.specs.View.{is_int}
use Rattle.sqlite_trees.proofs.ListLemmas.{all-map, all-permutation, all_weaker, map-map}
use Rattle.sqlite_rules.specs.Edit.{id_in}
use Rattle.dh_model.specs.Books as machine
use Rattle.dh_sql.specs.Gathered.{put_rows}
use Rattle.dh_sql.specs.Shape.{IsStored, Shape}
use Rattle.dh_sql.proofs.WholeTable.{all_good, all_once, all_put, all_stored, own_rowids, whole_rowids}
use Rattle.dh_tables.specs.Listing.{AreNumbered, HasRowids, HasUniqueKeys, IsGathered, rowid_alone}
use Rattle.dh_tables.specs.Tables.{Accessor}
use Rattle.dh_tables.proofs.Keys.{one_a_row}

count_is : {K X : Type 0} {R : K → K → Ordering} (m : FinMap R X) → length (values m) ≡ len m
count_is m = length-values_of (entries m) ∙ sym (len-entries m)

-- the rowids of all rows, in some order
pub shown_numbered : (rows ids : List Row) → IsPermutation (map rowid_alone rows) ids → AreNumbered rows → AreNumbered ids
shown_numbered rows ids perm numbered =
    let id : Row → ℤ = λ row. id_in (rowid row) in
    let IsWhole : Row → Type 0 = λ row. is_int (rowid row) ≡ true in
    let flips = (eq_by_cmp_equiv int_cmp_total).symm in
    let shown = subst (IsDistinct (eq_by_cmp int_cmp)) (sym (map-map id rowid_alone rows)) numbered.once in
    record {
      whole = all-permutation IsWhole (map rowid_alone rows) ids perm (all-map IsWhole rowid_alone rows numbered.whole);
      once = IsDistinct-IsPermutation (eq_by_cmp int_cmp) flips _ _ (IsPermutation-map id (map rowid_alone rows) ids perm) shown;
    }

pub has_rowids : (rows ids : List Row) → IsPermutation (map rowid_alone rows) ids → AreNumbered ids → HasRowids rows
has_rowids rows ids perm numbered = record { whole = whole_rowids rows ids perm numbered.whole; apart = own_rowids rows ids perm numbered.whole numbered.once }

module _ {K X : Type 0} (it : Shape K X) (is_row : Row → Bool) (same : (r : Row) → it.is_row r ≡ is_row r) (trees : Trees)
    (rows : List Row) (perm : IsPermutation (map it.columns (trees it.tree)) rows) where
  pub no_record : (AllByRecursion (λ row. is_row row ≡ true) rows → ⊥) → AllByRecursion (IsStored it) (trees it.tree) → ⊥
  no_record damaged stored =
      damaged (all_weaker (λ row. it.is_row row ≡ true) (λ row. is_row row ≡ true) (λ row good. sym (same row) ∙ good)
      rows (all_good it trees rows perm stored))

  module _ {R : K → K → Ordering} (o : IsTotalOrder R) (anti : IsAntisymmetric R) (accessor : Accessor K X R) (old new : machine.State)
      (none : accessor.held old ≡ empty)
      (put : new ≡ accessor.with old (put_rows it rows (accessor.held old))) where
    all_held : new ≡ accessor.with old (put_rows it rows empty)
    all_held = put ∙ ap (λ m. accessor.with old (put_rows it rows m)) none

    all_in_books : accessor.held new ≡ put_rows it rows empty
    all_in_books = ap accessor.held all_held ∙ accessor.held_with old (put_rows it rows empty)

    -- where no key is there twice, the books have as many records as there are rows
    pub as_many_held : HasUniqueKeys it R trees → length (values (accessor.held new)) ≡ length rows
    as_many_held once = count_is (accessor.held new) ∙ ap len all_in_books ∙ one_a_row o it trees rows perm once

    -- the books have as many records as there are rows
    pub gathered : AllByRecursion (λ row. is_row row ≡ true) rows → length (values (accessor.held new)) ≡ length rows
        → IsGathered it R accessor trees old new
    gathered good as_many =
        let size : len (put_rows it rows (empty {R = R})) ≡ length rows = sym (ap len all_in_books) ∙ sym (count_is (accessor.held new)) ∙ as_many in
        let good_here = all_weaker (λ row. is_row row ≡ true) (λ row. it.is_row row ≡ true) (λ row h. same row ∙ h) rows good in
        record {
          values = all_stored it trees rows perm good_here;
          keys = all_once it trees rows perm o anti size;
          books = all_held ∙ ap (accessor.with old) (all_put it trees rows perm o anti size);
        }

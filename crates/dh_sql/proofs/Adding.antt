-- More records, whose keys are new, in a tree of any shape.
use Rattle.std.proofs.Common.{◌≡◌, ◌∙◌, refl, sym, ap, subst, ℕ, Bool, true, false, cond, List, [], ◌∷◌, map, Option, Some, None, Ok, IsPermutation}
use Rattle.std.specs.declared.cmp.Ordering.{Ordering}
use Rattle.std.specs.Ordering.{eq_by_cmp}
use Rattle.std.specs.List.{AllByRecursion, IsDistinct}
use Rattle.std.specs.Map.{keys_of}
use Rattle.std.specs.Cmp.{IsTotalOrder, eq_by_cmp_equiv}
use Rattle.std.specs.FinMap.{FinMap, IsAntisymmetric, find, get, get-from_entries, insert}
use Rattle.std.proofs.lemmas.List.Sorted.{IsPermutation-map}
use Rattle.std.proofs.lemmas.Map.Keys.{IsDistinct-IsPermutation}
use Rattle.sqlite_trees.proofs.ListLemmas.{all-permutation, map-map}
use Rattle.sqlite_value.specs.Order.{Row}
use Rattle.sqlite_schema.specs.declared.schema.Schema.{Schema}
use Rattle.sqlite_schema.specs.declared.schema.Table.{Table}
use Rattle.sqlite_trees.specs.Tree.{Trees, put_row, rowid}
use Rattle.sqlite_trees.specs.View.{is_int}
use Rattle.sqlite.specs.Cast.{cast_row}
use Rattle.sqlite.specs.Edit.{are_fresh, is_taken, numbered, put_all, with_rowid}
use Rattle.sqlite.specs.Rowids.TheVariants.{Chosen}
use Rattle.sqlite.specs.State.{State, Executes}
use Rattle.sqlite.specs.Term.{Term}
use Rattle.dh_model.specs.Books.{with_rows}
use Rattle.dh_sql.specs.Changes.{AreNew, Becomes}
use Rattle.dh_sql.specs.Shape.{AreApart, Shape, IsKept, IsStored, entry_in, rows_in, stored_in}
use Rattle.dh_sql.specs.Texts.{IsInsertText, IsQuiet}
use Rattle.dh_sql.proofs.Apart.{apart_with, none_taken}
use Rattle.dh_sql.proofs.EachRow.{with_all, with_each}
use Rattle.dh_sql.proofs.Inserting.{PutsRows, inserts}
use Rattle.dh_sql.proofs.Maps.{from_more}
use Rattle.dh_sql.proofs.Running.{and_first, and_second, not_true, put_fresh}
use Rattle.dh_sql.proofs.Staying.{others_stay, same_tree}

-- what was put in is a record of this shape
pub record ReadsBack {K X : Type 0} (it : Shape K X) (table : Table) (row source : Row) (x : X) : Type 0 where
  pub stays : cast_row table source ≡ source
  pub columns : (rows : List Row) → it.columns (with_rowid Chosen rows source) ≡ row
  pub keyed : (rows : List Row) → is_int (rowid (with_rowid Chosen rows source)) ≡ true
  pub record_is : it.row_in row ≡ x
  pub grammar : it.is_row row ≡ true

module _ {K X : Type 0} {R : K → K → Ordering} (o : IsTotalOrder R) (anti : IsAntisymmetric R) where
  none_of : (b : Bool) (x : X) (later : Option X) → cond b (Some x) later ≡ None → (b ≡ false) × (later ≡ None)
  none_of true x later h = cc
  none_of false x later h = (refl, h)

  absent : (k : K) (es : List (K × X)) → find R k es ≡ None → AllByRecursion (λ j. eq_by_cmp R k j ≡ false) (keys_of es)
  absent k [] h = tt
  absent k (e ∷ es) h = let both = none_of (eq_by_cmp R k e.0) e.1 (find R k es) h in (both.0, absent k es both.1)

  module _ (it : Shape K X) (old new : Trees) (kept : IsKept it R old) (row : Row) (x : X) (free : is_taken (old it.tree) row ≡ false)
      (puts : new it.tree ≡ put_row row (old it.tree)) (read : stored_in it row ≡ x) (grammar : IsStored it row) (keyed : is_int (rowid row) ≡ true)
      (fresh : get (rows_in it {R = R} old) (it.key x) ≡ None) where
    moved : IsPermutation (row ∷ old it.tree) (new it.tree)
    moved = rw puts (put_fresh row (old it.tree) free)

    entries_distinct : IsDistinct (eq_by_cmp R) (it.key x ∷ keys_of (map (entry_in it) (old it.tree)))
    unfolding IsDistinct
    entries_distinct =
        let none = sym (get-from_entries o (map (entry_in it) (old it.tree)) (it.key x)) ∙ fresh in
        (absent (it.key x) (map (entry_in it) (old it.tree)) none, rw (map-map (λ (e : K × X). e.0) (entry_in it) (old it.tree)) kept.keys)

    entry_is : entry_in it row ≡ (it.key x, x)
    entry_is = λ i. (it.key (read i), read i)

    moved_entries : IsPermutation ((it.key x, x) ∷ map (entry_in it) (old it.tree)) (map (entry_in it) (new it.tree))
    moved_entries =
        subst (λ (e : K × X). IsPermutation (e ∷ map (entry_in it) (old it.tree)) (map (entry_in it) (new it.tree))) entry_is
        (IsPermutation-map (entry_in it) _ _ moved)

    kept_with : IsKept it R new
    kept_with = record {
      values = all-permutation (IsStored it) (row ∷ old it.tree) (new it.tree) moved (grammar, kept.values);
      rowids = all-permutation (λ r. is_int (rowid r) ≡ true) (row ∷ old it.tree) (new it.tree) moved (keyed, kept.rowids);
      keys = subst (IsDistinct (eq_by_cmp R)) (map-map (λ (e : K × X). e.0) (entry_in it) (new it.tree))
          (IsDistinct-IsPermutation (eq_by_cmp R) (eq_by_cmp_equiv o).symm _ _ (IsPermutation-map (λ (e : K × X). e.0) _ _ moved_entries) entries_distinct);
    }

    rows_with : rows_in it {R = R} new ≡ insert (rows_in it old) (it.key x) x
    rows_with = from_more o anti (it.key x) x (map (entry_in it) (old it.tree)) (map (entry_in it) (new it.tree)) moved_entries entries_distinct

    still_apart : AreApart (old it.tree) → AreApart (new it.tree)
    still_apart = apart_with (old it.tree) (new it.tree) row moved keyed kept.rowids (none_taken row (old it.tree) keyed free)

  -- the table is in order and has these records, and each of its rowids is of one row if it was so before
  record Has (it : Shape K X) (records : FinMap R X) (before : List Row) (new : Trees) : Type 0 where
    rows : rows_in it {R = R} new ≡ records
    kept : IsKept it R new
    apart : AreApart before → AreApart (new it.tree)

  module _ (it : Shape K X) (table : Table) (row source : X → Row) (new : Trees) where
    -- the rows of the records, cast and numbered
    abbrev stored_after : List Row → List X → List Row
    stored_after rows xs = numbered Chosen rows (map (cast_row table) (map source xs))

    has_each : (xs : List X) (rows : List Row) → AllByRecursion (λ x. ReadsBack it table (row x) (source x) x) xs
        → IsKept it R (λ _. rows) → AreNew {R = R} it.key xs (rows_in it (λ _. rows)) → are_fresh rows (stored_after rows xs) ≡ true
        → new it.tree ≡ put_all rows (stored_after rows xs) → Has it (with_each it.key xs (rows_in it (λ _. rows))) rows new
    has_each [] rows back kept free fresh is =
        let same = same_tree it R (λ _. rows) new is in
        record { rows = same.rows; kept = same.kept kept; apart = same.apart }
    has_each (x ∷ xs) rows back kept free fresh is =
        let b = back.0 in
        let r = with_rowid Chosen rows (cast_row table (source x)) in
        let cast_in : r ≡ with_rowid Chosen rows (source x) = ap (with_rowid Chosen rows) b.stays in
        let read : stored_in it r ≡ x = ap (stored_in it) cast_in ∙ ap it.row_in (b.columns rows) ∙ b.record_is in
        let grammar : IsStored it r = ap (λ q. it.is_row (it.columns q)) cast_in ∙ ap it.is_row (b.columns rows) ∙ b.grammar in
        let keyed : is_int (rowid r) ≡ true = ap (λ q. is_int (rowid q)) cast_in ∙ b.keyed rows in
        let own = not_true _ (and_first _ _ fresh) in
        let mid = put_row r rows in
        let one = rows_with it (λ _. rows) (λ _. mid) kept r x own refl read grammar keyed free.0 in
        let after = kept_with it (λ _. rows) (λ _. mid) kept r x own refl read grammar keyed free.0 in
        let rest = has_each xs mid back.1 after (subst (AreNew {R = R} it.key xs) (sym one) free.1) (and_second _ _ fresh) is in
        record {
          rows = rest.rows ∙ ap (with_each it.key xs) one;
          kept = rest.kept;
          apart = λ was. rest.apart (still_apart it (λ _. rows) (λ _. mid) kept r x own refl read grammar keyed free.0 was);
        }

  -- the table has the records too, and all else is as it was
  pub adds : (it : Shape K X) (schema : Schema) (quiet : IsQuiet schema) (text : List ℕ) (place : ℕ) (table : Table) (terms : List Term) (width : ℕ)
      (params : Row) (row source : X → Row) (xs : List X) → table.tree ≡ it.tree
      → IsInsertText text schema place table terms width params (map source xs)
      → (old new : State) (count : ℕ) → AllByRecursion (λ x. ReadsBack it table (row x) (source x) x) xs → old.now.schema ≡ schema
      → IsKept it R old.now.trees → AreNew {R = R} it.key xs (rows_in it old.now.trees) → Executes text params old new (Ok count)
      → Becomes it R schema (with_each it.key xs (rows_in it old.now.trees)) old new
  adds it schema quiet text place table terms width params row source xs tree is old new count back has kept free h =
      let was = old.now.trees in
      let done = inserts text schema place table terms width params (map source xs) quiet is old new count has h in
      let puts = subst (λ t. PutsRows schema t (stored_after it table row source new.now.trees (was t) xs) was new.now.trees) tree done.1 in
      let all = has_each it table row source new.now.trees xs (was it.tree) back
      (record { values = kept.values; rowids = kept.rowids; keys = kept.keys }) free puts.fresh puts.rows_are in
      record {
        schema_is = done.0;
        listed = done.2;
        rows = all.rows;
        kept = all.kept;
        apart = all.apart;
        others = others_stay schema it.tree was new.now.trees puts.others;
      }

  -- and has them all at once
  pub adds_all : (it : Shape K X) (schema : Schema) (xs : List X) (old new : State) → AreNew {R = R} it.key xs (rows_in it old.now.trees)
      → Becomes it R schema (with_each it.key xs (rows_in it old.now.trees)) old new
      → Becomes it R schema (with_rows it.key xs (rows_in it old.now.trees)) old new
  adds_all it schema xs old new free =
      subst (λ (records : FinMap R X). Becomes it R schema records old new) (with_all it.key o anti xs (rows_in it old.now.trees) free)

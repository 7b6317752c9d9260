-- A row of whatever kind that a change adds to its table, or makes another there.
use Rattle.std.proofs.Common.{◌≡◌, ◌∙◌, refl, sym, ap, subst, Some, None, Result, OnErr, OnOk}
use Rattle.std.specs.FinMap.{FinMap, get, insert}
use Rattle.sqlite.specs.declared.error.Error.{Error}
use Rattle.sqlite.specs.State.{HasCleanDisk, State}
use Rattle.sqlite_trees.specs.Tree.{Trees}
use Rattle.dh_model.specs.declared.rows.Change.{Change}
use Rattle.dh_model.specs.Books as machine
use Rattle.dh_model.specs.Edits.{CanEdit, Insert, Replace, Update, came_with_edit, edit_of, edited, updated}
use Rattle.dh_model.specs.Kinds.{Branches, HasKind, IsSince, Kind, came_with, key_in, key_of, order_of, record_of, records_of, with_records}
use Rattle.dh_model.specs.Machine.{changed}
use Rattle.dh_laws.specs.Looks.{FitsIn}
use Rattle.dh_sql.specs.Shape.{AreApart, IsKept, rows_in}
use Rattle.dh_tables.specs.Calls.{Adds, Amends, CommitsNothing, IsNew, IsThere as IsInTable, IsUndone, IsWritingSince, StaysInTransaction}
use Rattle.dh_tables.specs.Kinds.{IsKind, Stored, accessor_of, shape_of}
use Rattle.dh_schema.specs.Store.{IsWriting, tables}
use Rattle.dh_schema.specs.Tables.{books_in, loaded_from, records_in, version_of_tables}
use Rattle.dh_schema.proofs.EachKind.{all_since}
use Rattle.dh_schema.proofs.Keyed.{keyed}
use Rattle.dh_schema.proofs.OfKind.{is_kept}
use Rattle.dh_schema.proofs.ReadTables.{on_ok}
use Rattle.dh_schema.proofs.Versions.{has_since}
use Rattle.dh_schema.specs.Changes.{HasPlace, PutsRows, TurnsInto, came_with_rows}
use Rattle.dh_schema.proofs.Putting.{IsThere, added, amended}

-- ---- the rows of a kind in its table and in the books

books_have : (kind : Kind) (trees : Trees) → records_of kind (books_in trees) ≡ records_in kind trees
books_have Branches trees = refl
books_have kind trees = refl

key_is : (kind : Kind) (it : record_of kind) → (shape_of kind).key it ≡ key_in kind it
key_is Branches it = refl
key_is kind it = refl

books_with : (kind : Kind) (s : machine.State) (rows : FinMap (order_of kind) (record_of kind))
    → ((accessor_of kind).with s rows).books ≡ with_records kind rows s.books
books_with Branches s rows = refl
books_with kind s rows = refl

module _ (kind : Kind) (trees : Trees) (since : HasKind (version_of_tables trees) kind) where
  rows_are : rows_in (shape_of kind) {R = order_of kind} trees ≡ records_of kind (books_in trees)
  rows_are = sym (books_have kind trees ∙ all_since (came_with kind) (version_of_tables trees) (rows_in (shape_of kind) trees) since)

  free_there : (it : record_of kind) → get (records_of kind (books_in trees)) (key_in kind it) ≡ None
      → get (rows_in (shape_of kind) {R = order_of kind} trees) ((shape_of kind).key it) ≡ None
  free_there it free = (λ i. get (rows_are i) (key_is kind it i)) ∙ free

  found_there : (key : key_of kind) (it : record_of kind) → get (records_of kind (books_in trees)) key ≡ Some it
      → get (rows_in (shape_of kind) {R = order_of kind} trees) key ≡ Some it
  found_there key it found = ap (λ (rows : FinMap (order_of kind) (record_of kind)). get rows key) rows_are ∙ found

  put_is : (own key : key_of kind) → own ≡ key → (it : record_of kind)
      → ((accessor_of kind).with (loaded_from trees) (insert (rows_in (shape_of kind) trees) own it)).books
      ≡ with_records kind (insert (records_of kind (books_in trees)) key it) (books_in trees)
  put_is own key same it =
      books_with kind (loaded_from trees) (insert (rows_in (shape_of kind) trees) own it)
      ∙ (λ i. with_records kind (insert (rows_are i) (same i) it) (books_in trees))

-- ---- a change whose rows have a place

module _ (it : Stored) (is : IsKind it) (rows : Change) (came : came_with_rows rows ≡ came_with is.kind) (old : State)
    (place : HasPlace (version_of_tables old.now.trees) rows) where
  kind_since : HasKind (version_of_tables old.now.trees) is.kind
  kind_since = subst (λ came. IsSince came (version_of_tables old.now.trees)) came place

  own_since : IsSince it.since (version_of_tables old.now.trees)
  own_since = is.by_kind (λ s as_row of_row as_key. IsSince s.since (version_of_tables old.now.trees)) kind_since

  pub place_writing : IsWriting old → IsWritingSince it.since old
  place_writing writing =
      record { inside = writing.inside; has = has_since it.since (version_of_tables old.now.trees) old.now.schema writing.version own_since }

  pub place_kept : IsWriting old → IsKept it.shape it.order old.now.trees
  place_kept writing = is_kept it is old.now.trees writing.in_order own_since

  pub place_apart : IsWriting old → AreApart (old.now.trees it.shape.tree)
  place_apart writing = is.by_kind (λ s as_row of_row as_key. AreApart (old.now.trees s.shape.tree)) (writing.in_order.tables is.kind kind_since).apart

-- ---- a row that is added

module _ (it : Stored) (is : IsKind it) (rows : Change) (row : it.Row) (edits : edit_of rows ≡ Insert is.kind (is.as_row row)) (old : State) where
  add_since : HasPlace (version_of_tables old.now.trees) rows → HasKind (version_of_tables old.now.trees) is.kind
  add_since = kind_since it is rows (ap came_with_edit edits) old

  pub add_fresh : FitsIn rows (tables old).books → HasPlace (version_of_tables old.now.trees) rows → IsNew it.shape it.order row old
  add_fresh fits place =
      is.by_kind
      (λ s as_row of_row as_key. (new : s.Row) → get (records_of is.kind (tables old).books) (key_in is.kind (as_row new)) ≡ None
      → IsNew s.shape s.order new old)
      (free_there is.kind old.now.trees (add_since place)) row (subst (λ edit. CanEdit edit (tables old).books) edits fits)

  module _ (new : State) (r : Result (Unit {0}) Error) where
    turn : Adds it.shape it.order row old new → Adds (shape_of is.kind) (order_of is.kind) (is.as_row row) old new
    turn =
        is.by_kind
        (λ s as_row of_row as_key. (x : s.Row) → Adds s.shape s.order x old new → Adds (shape_of is.kind) (order_of is.kind) (as_row x) old new)
        (λ x h. h) row

    pub add_puts : (HasCleanDisk old → IsWriting old) → (HasCleanDisk old → HasPlace (version_of_tables old.now.trees) rows)
        → (HasCleanDisk new → OnOk r (StaysInTransaction old new)) → (HasCleanDisk new → OnOk r (Adds it.shape it.order row old new))
        → (HasCleanDisk new → OnErr r (IsUndone old new)) → CommitsNothing old new → PutsRows rows r old new
    add_puts writing place shown adds undone crash =
        added is.kind _ old new (changed rows) r (λ clean. add_since (place clean)) writing
        (λ clean. put_is is.kind old.now.trees (add_since (place clean)) _ _ (key_is is.kind (is.as_row row)) (is.as_row row)
        ∙ sym (ap (λ edit. edited edit (tables old).books) edits))
        shown (λ clean. on_ok r turn (adds clean)) undone crash

-- ---- a row that becomes another

abbrev own_into : {it : Stored} (is : IsKind it) → (it.Row → it.Row) → record_of is.kind → record_of is.kind
own_into is into row = is.as_row (into (is.of_row row))

-- by what the change makes of it
pub by_update : {it : Stored} {is : IsKind it} {rows : Change} {key : it.Key} {into : it.Row → it.Row}
    → edit_of rows ≡ Update is.kind (is.as_key key) (own_into is into) → TurnsInto is rows key into
by_update {is = is} {key = key} {into = into} edits = record {
  came = ap came_with_edit edits;
  there = λ books fits. subst (λ edit. CanEdit edit books) edits fits;
  makes = λ books row found under.
      sym (ap (updated is.kind (is.as_key key) (own_into is into) books) found) ∙ sym (ap (λ edit. edited edit books) edits);
}

-- or by a row that takes its place
pub by_row : {it : Stored} {is : IsKind it} {rows : Change} {key : it.Key} {into : it.Row → it.Row} (row : record_of is.kind)
    → edit_of rows ≡ Replace is.kind row → key_in is.kind row ≡ is.as_key key
    → ((there : record_of is.kind) → key_in is.kind there ≡ key_in is.kind row → own_into is into there ≡ row) → TurnsInto is rows key into
by_row {is = is} row edits keyed same = record {
  came = ap came_with_edit edits;
  there = λ books fits.
      let found = subst (λ edit. CanEdit edit books) edits fits in
      (found.0, ap (get (records_of is.kind books)) (sym keyed) ∙ found.1);
  makes = λ books there found under.
      (λ i. with_records is.kind (insert (records_of is.kind books) (sym keyed i) (same there (under ∙ sym keyed) i)) books)
      ∙ sym (ap (λ edit. edited edit books) edits);
}

module _ (it : Stored) (is : IsKind it) (rows : Change) (key : it.Key) (into : it.Row → it.Row) (turns : TurnsInto is rows key into) (old : State) where
  update_since : HasPlace (version_of_tables old.now.trees) rows → HasKind (version_of_tables old.now.trees) is.kind
  update_since = kind_since it is rows turns.came old

  pub amend_there : FitsIn rows (tables old).books → HasPlace (version_of_tables old.now.trees) rows → IsInTable it.shape it.order key old
  amend_there fits place =
      is.by_kind
      (λ s as_row of_row as_key. (k : s.Key)
      → (row : record_of is.kind) × (get (records_of is.kind (tables old).books) (as_key k) ≡ Some row) → IsInTable s.shape s.order k old)
      (λ k found. (found.0, found_there is.kind old.now.trees (update_since place) k found.0 found.1)) key (turns.there (tables old).books fits)

  module _ (new : State) (r : Result (Unit {0}) Error) where
    turned : Amends it.shape it.order key into old new → Amends (shape_of is.kind) (order_of is.kind) (is.as_key key) (own_into is into) old new
    turned =
        is.by_kind
        (λ s as_row of_row as_key. (k : s.Key) (f : s.Row → s.Row) → Amends s.shape s.order k f old new
        → Amends (shape_of is.kind) (order_of is.kind) (as_key k) (λ row. as_row (f (of_row row))) old new)
        (λ k f h. h) key into

    is_there : FitsIn rows (tables old).books → HasPlace (version_of_tables old.now.trees) rows
        → IsThere is.kind (is.as_key key) (own_into is into) old new (changed rows)
    is_there fits place =
        let found = turns.there (tables old).books fits in
        let since = update_since place in
        let under : key_in is.kind found.0 ≡ is.as_key key =
        sym (key_is is.kind found.0) ∙ keyed is.kind old.now.trees (is.as_key key) found.0 (sym (ap (λ (m : FinMap (order_of is.kind) (record_of is.kind)).
        get m (is.as_key key)) (books_have is.kind old.now.trees)) ∙ found.1) in (
          found.0,
          found_there is.kind old.now.trees since (is.as_key key) found.0 found.1,
          put_is is.kind old.now.trees since (is.as_key key) (is.as_key key) refl (own_into is into found.0)
              ∙ turns.makes (tables old).books found.0 found.1 under,
        )

    pub amend_puts : (HasCleanDisk old → IsWriting old) → (HasCleanDisk old → HasPlace (version_of_tables old.now.trees) rows)
        → (HasCleanDisk old → FitsIn rows (tables old).books)
        → (HasCleanDisk new → OnOk r (StaysInTransaction old new)) → (HasCleanDisk new → OnOk r (Amends it.shape it.order key into old new))
        → (HasCleanDisk new → OnErr r (IsUndone old new)) → CommitsNothing old new → PutsRows rows r old new
    amend_puts writing place fits shown amends undone crash =
        amended is.kind (is.as_key key) (own_into is into) old new (changed rows) r (λ clean. update_since (place clean)) writing
        (λ clean. is_there (fits clean) (place clean)) shown (λ clean. on_ok r turned (amends clean)) undone crash

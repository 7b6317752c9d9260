-- Tables that were just made.
use Rattle.std.proofs.Common.{◌≡◌, ◌∙◌, refl, sym, ap, subst, ℕ, false, List, [], map, Ok}
use Rattle.std.specs.declared.cmp.Ordering.{Ordering}
use Rattle.std.specs.List.{IsDistinct}
use Rattle.std.specs.FinMap.{empty, from_entries}
use Rattle.sqlite_value.specs.Order.{Row}
use Rattle.sqlite_schema.specs.declared.schema.Schema.{Schema}
use Rattle.sqlite_schema.specs.declared.schema.Table.{Table}
use Rattle.sqlite_catalog.specs.Listing as catalog
use Rattle.sqlite_trees.specs.Tree.{Trees}
use Rattle.sqlite.specs.Effect.{Database}
use Rattle.sqlite.specs.State.{HasCleanDisk, KeepsCommit, Shows, State}
use Rattle.dh_model.specs.Books as machine
use Rattle.dh_rows.specs.Months.{Months}
use Rattle.dh_types.specs.declared.version.Version.{Version}
use Rattle.dh_types.specs.declared.version.Version.TheVariants.{First, Second}
use Rattle.dh_ddl.specs.Versions.{each_is_ours, schema_of}
use Rattle.dh_ddl.specs.Making.{HasEmptyTables}
use Rattle.dh_sql.specs.Shape.{AreApart, IsKept, Shape, entry_in, rows_in}
use Rattle.dh_sql.proofs.Lists.{all_at}
use Rattle.dh_tables.specs.Calls.{CommitsNothing, StaysInTransaction}
use Rattle.dh_tables.specs.MetaTable.{SetsMonths}
use Rattle.dh_model.specs.Kinds.{HasKind, Kind, came_with, order_of}
use Rattle.dh_schema.specs.Kinds.{place_of, shape_of, table_of}
use Rattle.dh_schema.specs.Tables.{IsTableInOrder, empty_over, loaded_from, records_in, rows_since, version_of_tables}
use Rattle.dh_schema.specs.Store.{AreTables, HasItsSchema, IsReady, IsWriting, tables}
use Rattle.dh_schema.specs.Putting.{Puts}
use Rattle.dh_schema.proofs.Changing.{set_beside, told}
use Rattle.dh_schema.proofs.EachKind.{held_in, listed, none_held, same_books, same_since, tree_is}
use Rattle.dh_schema.proofs.Putting.{turns_then}

-- ---- a table without a row

module _ {K X : Type 0} (it : Shape K X) (R : K → K → Ordering) (trees : Trees) (none : trees it.tree ≡ []) where
  pub empty_kept : IsKept it R trees
  unfolding IsDistinct
  empty_kept = record { values = rw none tt; rowids = rw none tt; keys = rw none tt }

  pub empty_apart : AreApart (trees it.tree)
  empty_apart = rw none (λ x y hx hy e. absurd hx)

  pub no_records : rows_in it {R = R} trees ≡ empty
  no_records = ap (λ (rows : List Row). from_entries {R = R} (map (entry_in it) rows)) none

-- of a kind, it is in order
pub bare_in_order : (kind : Kind) (trees : Trees) → trees (shape_of kind).tree ≡ [] → IsTableInOrder kind trees
bare_in_order kind trees none =
    record { kept = empty_kept (shape_of kind) (order_of kind) trees none; apart = empty_apart (shape_of kind) (order_of kind) trees none }

-- ---- all of them

pub none_since : {K X : Type 0} {R : K → K → Ordering} (came version : Version) → rows_since came version (empty {X = X} {R = R}) ≡ empty
none_since First version = refl
none_since Second First = refl
none_since Second Second = refl

module _ (months : Months) (before after : State) (made : HasEmptyTables months.version before) (set : SetsMonths months before after) where
  version_is : version_of_tables after.now.trees ≡ months.version
  version_is = ap (λ (m : Months). m.version) (told months after.now.trees set.months_are)

  its_schema : HasItsSchema after
  its_schema = set.schema_is ∙ made.0.schema_is ∙ ap schema_of (sym version_is)

  none_in : (kind : Kind) → HasKind months.version kind → after.now.trees (shape_of kind).tree ≡ []
  none_in kind here =
      let was = all_at (λ (t : Table). before.now.trees t.tree ≡ []) (schema_of months.version).tables (place_of kind) (table_of kind) made.1
      (listed months.version kind here) in
      subst (λ n. after.now.trees n ≡ []) (tree_is kind) (set_beside months months.version before after made.0.schema_is set kind here ∙ was)

  no_records_in : (kind : Kind) → records_in kind after.now.trees ≡ empty
  no_records_in kind =
      ap (λ (v : Version). rows_since (came_with kind) v (rows_in (shape_of kind) {R = order_of kind} after.now.trees)) version_is
      ∙ same_since (came_with kind) months.version (rows_in (shape_of kind) after.now.trees) empty
      (λ here. no_records (shape_of kind) (order_of kind) after.now.trees (none_in kind here))
      ∙ none_since (came_with kind) months.version

  new_writing : StaysInTransaction before after → IsWriting after × ((tables after).books ≡ (empty_over months).books)
  new_writing on = (
    record {
      is_open = on.is_open;
      inside = on.mode;
      schema = each_is_ours (version_of_tables after.now.trees) after.now.schema its_schema;
      version = its_schema;
      in_order = record {
        listed = subst (λ (s : Schema). catalog.IsSound s after.now.trees) (made.0.schema_is ∙ ap schema_of (sym version_is)) set.listed;
        months = months;
        meta = set.months_are;
        tables = λ kind there. bare_in_order kind after.now.trees (none_in kind (subst (λ (v : Version). HasKind v kind) version_is there));
      };
    },
    ap (λ (s : machine.State). s.books) (same_books (loaded_from after.now.trees) (empty_over months)
        (λ kind. held_in kind after.now.trees ∙ no_records_in kind ∙ sym (none_held kind months))
        (ap (λ (m : Months). m.first) (told months after.now.trees set.months_are)) (ap (λ (m : Months). m.next) (told months after.now.trees set.months_are))
        version_is refl),
  )

-- they were made and got this month, which is all that they have
pub new_put : (first : ℕ) (meta : Months) (begun mid last : State) → meta ≡ record { version = Second; first = first; next = first }
    → (HasCleanDisk mid → HasEmptyTables Second mid) → (HasCleanDisk mid → KeepsCommit begun mid) → CommitsNothing begun mid
    → (HasCleanDisk last → StaysInTransaction mid last) → (HasCleanDisk last → SetsMonths meta mid last) → CommitsNothing mid last
    → Puts (machine.start first).books (Ok tt) begun last
new_put first meta begun mid last is made kept before on set =
    turns_then (λ _. (machine.start first).books) (Ok tt) begun mid last (λ early half on set.
    new_writing (record { version = Second; first = first; next = first }) mid last (made half) (subst (λ m. SetsMonths m mid last) is set) on)
    kept before on set (λ _. tt)

-- what was committed over tables of their version is ready
pub ready_after : (P : machine.State → Type 0) (last new : State) → HasItsSchema last → Shows last new last.now last.now false
    → AreTables P last.now.trees → IsReady new × P (tables new)
ready_after P last new has shown made =
    let moved = subst (AreTables P) (sym (ap (λ (d : Database). d.trees) shown.now_is)) made in
    let its : HasItsSchema new = subst (λ (d : Database). d.schema ≡ schema_of (version_of_tables d.trees)) (sym shown.now_is) has in (
      record {
        is_open = shown.is_open;
        autocommit = shown.mode;
        schema = each_is_ours (version_of_tables new.now.trees) new.now.schema its;
        version = its;
        settled = shown.now_is ∙ sym shown.committed_is;
        sound = moved.0;
      },
      moved.1,
    )

-- A change of one table, as one of the books.
use Rattle.std.proofs.Common.{◌≡◌, ◌∙◌, inl, inr, sym, ap, subst, ℕ, nat_eq, false, List, map, Some, slice_get}
use Rattle.std.proofs.lemmas.Bool.{cases_Bool}
use Rattle.std.specs.FinMap.{FinMap}
use Rattle.sqlite_value.specs.Order.{Row}
use Rattle.sqlite_schema.specs.declared.schema.Schema.{Schema}
use Rattle.sqlite_catalog.specs.Listing as catalog
use Rattle.sqlite_trees.specs.Tree.{Trees}
use Rattle.sqlite.specs.State.{State}
use Rattle.dh_types.specs.declared.version.Version.{Version}
use Rattle.dh_rows.specs.Months.{Months}
use Rattle.dh_rows.specs.MetaRows.{months_back}
use Rattle.dh_ddl.specs.Versions.{schema_of}
use Rattle.dh_ddl.specs.MetaTable.{meta}
use Rattle.dh_sql.specs.Changes.{Becomes, IsSame}
use Rattle.dh_sql.specs.Shape.{rows_in}
use Rattle.dh_sql.proofs.Staying.{same_beside}
use Rattle.dh_tables.specs.MetaTable.{AreMonths, HasMonths, SetsMonths, SetsNext, meta_columns, meta_rows}
use Rattle.dh_model.specs.Kinds.{HasKind, Kind, came_with, order_of, record_of}
use Rattle.dh_schema.specs.Kinds.{accessor_of, place_of, shape_of, table_of}
use Rattle.dh_schema.specs.Store.{HasItsSchema}
use Rattle.dh_schema.specs.Tables.{AreInOrder, IsTableInOrder, books_in, loaded_from, months_of, records_in, rows_since, version_of_tables}
use Rattle.dh_schema.proofs.EachKind.{all_since, beside_meta, held_beside, held_in, listed, meta_listed, months_beside, one_kind}
use Rattle.dh_schema.proofs.EachKind.{same_books, same_but, same_since, tree_is}

-- ---- the version and the months that meta gives

pub told : (months : Months) (trees : Trees) → HasMonths months trees → months_of (meta_rows trees) ≡ months
told months trees has = ap months_of has.rows_are ∙ months_back months has.grammar

-- setting meta's row leaves each table of the version
pub set_beside : (months : Months) (version : Version) (before after : State) → before.now.schema ≡ schema_of version → SetsMonths months before after
    → (kind : Kind) → HasKind version kind → after.now.trees (table_of kind).tree ≡ before.now.trees (table_of kind).tree
set_beside months version before after has set kind here =
    set.others (place_of kind) (table_of kind)
    (subst (λ (s : Schema). slice_get s.tables (place_of kind) ≡ Some (table_of kind)) (sym has) (listed version kind here))
    (ap (λ n. nat_eq n 0) (tree_is kind) ∙ (beside_meta kind).1)

module _ (s : State) (its : HasItsSchema s) where
  -- each table of the version stands at its place in the schema
  listed_there : (kind : Kind) → HasKind (version_of_tables s.now.trees) kind → slice_get s.now.schema.tables (place_of kind) ≡ Some (table_of kind)
  listed_there kind has =
      subst (λ (schema : Schema). slice_get schema.tables (place_of kind) ≡ Some (table_of kind)) (sym its) (listed (version_of_tables s.now.trees) kind has)

  meta_there : slice_get s.now.schema.tables 0 ≡ Some meta
  meta_there = subst (λ (schema : Schema). slice_get schema.tables 0 ≡ Some meta) (sym its) (meta_listed (version_of_tables s.now.trees))

-- ---- the records of one kind

module _ (k : Kind) (m : FinMap (order_of k) (record_of k)) (old new : State) (its : HasItsSchema old) (has : HasKind (version_of_tables old.now.trees) k)
    (is : Becomes (shape_of k) (order_of k) old.now.schema m old new) where
  was : (j : Kind) → HasKind (version_of_tables old.now.trees) j → nat_eq (shape_of j).tree (shape_of k).tree ≡ false
      → IsSame (shape_of j) (order_of j) old.now.trees new.now.trees
  was j here apart =
      same_beside (shape_of j) (order_of j) old.now.trees new.now.trees old.now.schema (shape_of k).tree is.others (place_of j) (table_of j)
      (listed_there old its j here) (tree_is j) apart

  meta_stays : new.now.trees 0 ≡ old.now.trees 0
  meta_stays = is.others 0 meta (meta_there old its) (beside_meta k).0

  pub version_stays : version_of_tables new.now.trees ≡ version_of_tables old.now.trees
  version_stays = ap (λ (rows : List Row). (months_of (map meta_columns rows)).version) meta_stays

  -- the schema is still that of the version
  pub schema_after : HasItsSchema new
  schema_after = is.schema_is ∙ its ∙ ap schema_of (sym version_stays)

  -- the tables are in order after it
  pub in_order_after : AreInOrder old.now.trees → AreInOrder new.now.trees
  in_order_after before = record {
    listed = subst (λ (schema : Schema). catalog.IsSound schema new.now.trees) (its ∙ ap schema_of (sym version_stays)) is.listed;
    months = before.months;
    meta = subst (λ rows. AreMonths before.months (map meta_columns rows)) (sym meta_stays) before.meta;
    tables = each;
  }
    where
      each : (j : Kind) → HasKind (version_of_tables new.now.trees) j → IsTableInOrder j new.now.trees
      each j there = let here = subst (λ (v : Version). HasKind v j) version_stays there in elim (cases_Bool (nat_eq (shape_of j).tree (shape_of k).tree)) [
        | inl same ↦
            let its_own : IsTableInOrder k new.now.trees = record { kept = is.kept; apart = is.apart (before.tables k has).apart } in
            subst (λ kind. IsTableInOrder kind new.now.trees) (sym (one_kind j k same)) its_own
        | inr apart ↦
            record { kept = (was j here apart).kept (before.tables j here).kept; apart = (was j here apart).apart (before.tables j here).apart }
      ]

  records_are : records_in k new.now.trees ≡ m
  records_are =
      all_since (came_with k) (version_of_tables new.now.trees) (rows_in (shape_of k) new.now.trees)
      (subst (λ (v : Version). HasKind v k) (sym version_stays) has)
      ∙ is.rows

  records_stay : (j : Kind) → nat_eq (shape_of j).tree (shape_of k).tree ≡ false → records_in j new.now.trees ≡ records_in j old.now.trees
  records_stay j apart =
      ap (λ (v : Version). rows_since (came_with j) v (rows_in (shape_of j) {R = order_of j} new.now.trees)) version_stays
      ∙ same_since (came_with j) (version_of_tables old.now.trees) (rows_in (shape_of j) new.now.trees) (rows_in (shape_of j) old.now.trees)
      (λ here. (was j here apart).rows)

  -- and the books have these records of its kind
  pub books_after : loaded_from new.now.trees ≡ (accessor_of k).with (loaded_from old.now.trees) m
  books_after =
      let before = loaded_from old.now.trees in
      let beside = months_beside k before m in
      same_books (loaded_from new.now.trees) ((accessor_of k).with before m) each
      (ap (λ (rows : List Row). (months_of (map meta_columns rows)).first) meta_stays ∙ sym beside.first)
      (ap (λ (rows : List Row). (months_of (map meta_columns rows)).next) meta_stays ∙ sym beside.next)
      (version_stays ∙ sym beside.version)
      (sym beside.open_run)
    where
      each : (j : Kind) → (accessor_of j).held (loaded_from new.now.trees) ≡ (accessor_of j).held ((accessor_of k).with (loaded_from old.now.trees) m)
      each j = elim (cases_Bool (nat_eq (shape_of j).tree (shape_of k).tree)) [
        | inl same ↦
            let after = loaded_from new.now.trees in
            let with_it = (accessor_of k).with (loaded_from old.now.trees) m in
            subst (λ kind. (accessor_of kind).held after ≡ (accessor_of kind).held with_it) (sym (one_kind j k same))
            (held_in k new.now.trees ∙ records_are ∙ sym ((accessor_of k).held_with (loaded_from old.now.trees) m))
        | inr apart ↦
            held_in j new.now.trees ∙ records_stay j apart ∙ sym (held_in j old.now.trees) ∙ sym (held_beside j k (loaded_from old.now.trees) m apart)
      ]

-- ---- the month to be run next

module _ (next : ℕ) (old new : State) (its : HasItsSchema old) (before : AreInOrder old.now.trees) (is : SetsNext next old new) where
  abbrev months : Months
  months = record is.0 { next = next }

  set : SetsMonths months old new
  set = is.2

  version_goes_on : version_of_tables new.now.trees ≡ version_of_tables old.now.trees
  version_goes_on =
      ap (λ (m : Months). m.version) (told months new.now.trees set.months_are) ∙ sym (ap (λ (m : Months). m.version) (told is.0 old.now.trees is.1))

  -- the schema is still that of the version
  pub schema_with_next : HasItsSchema new
  schema_with_next = set.schema_is ∙ its ∙ ap schema_of (sym version_goes_on)

  as_it_was : (j : Kind) → HasKind (version_of_tables old.now.trees) j → IsSame (shape_of j) (order_of j) old.now.trees new.now.trees
  as_it_was j here =
      same_beside (shape_of j) (order_of j) old.now.trees new.now.trees old.now.schema 0 set.others (place_of j) (table_of j)
      (listed_there old its j here) (tree_is j) (beside_meta j).1

  records_go_on : (j : Kind) → records_in j new.now.trees ≡ records_in j old.now.trees
  records_go_on j =
      ap (λ (v : Version). rows_since (came_with j) v (rows_in (shape_of j) {R = order_of j} new.now.trees)) version_goes_on
      ∙ same_since (came_with j) (version_of_tables old.now.trees) (rows_in (shape_of j) new.now.trees) (rows_in (shape_of j) old.now.trees)
      (λ here. (as_it_was j here).rows)

  -- the tables are in order after it
  pub in_order_with_next : AreInOrder new.now.trees
  in_order_with_next = record {
    listed = subst (λ (schema : Schema). catalog.IsSound schema new.now.trees) (its ∙ ap schema_of (sym version_goes_on)) set.listed;
    months = months;
    meta = set.months_are;
    tables = λ j there. let here = subst (λ (v : Version). HasKind v j) version_goes_on there in
        record { kept = (as_it_was j here).kept (before.tables j here).kept; apart = (as_it_was j here).apart (before.tables j here).apart };
  }

  -- and the books have this month
  pub books_with_next : books_in new.now.trees ≡ record (books_in old.now.trees) { next = next }
  books_with_next =
      let first = ap (λ (rows : List Row). (months_of rows).first) set.months_are.rows_are
      ∙ sym (ap (λ (rows : List Row). (months_of rows).first) is.1.rows_are) in
      let later = ap (λ (rows : List Row). (months_of rows).next) set.months_are.rows_are in
      same_but old.now.trees (books_in old.now.trees).first next (version_of_tables old.now.trees) new.now.trees records_go_on first later version_goes_on

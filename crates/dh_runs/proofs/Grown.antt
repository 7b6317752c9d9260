-- Tables of the first version that became those of the second, which have no fee row yet.
use Rattle.std.proofs.Common.{◌≡◌, ◌∙◌, inr, refl, sym, ap, subst, ℕ, List, [], map, Some, Result, OnOk, OnErr, slice_get, arith}
use Rattle.std.specs.FinMap.{empty, values}
use Rattle.sqlite_value.specs.Order.{Row}
use Rattle.sqlite_schema.specs.declared.schema.Table.{Table}
use Rattle.sqlite_schema.specs.declared.schema.Schema.{Schema}
use Rattle.sqlite_catalog.specs.Listing as catalog
use Rattle.sqlite.specs.declared.error.Error.{Error}
use Rattle.sqlite.specs.State.{HasCleanDisk, KeepsCommit, State}
use Rattle.dh_types.specs.declared.run.Part.{Part}
use Rattle.dh_types.specs.declared.version.Version.{Version}
use Rattle.dh_types.specs.declared.version.Version.TheVariants.{First, Second}
use Rattle.dh_model.specs.Books.{Books, with_rows}
use Rattle.dh_model.specs.Runs.{part_fee_key}
use Rattle.dh_model.specs.Kinds.{HasKind, Kind, came_with, order_of}
use Rattle.dh_model.specs.Kinds.{BranchFees, PartFees, Endings}
use Rattle.dh_rows.specs.Months.{Months}
use Rattle.dh_ddl.specs.Layout.{first_schema, first_tables, our_schema}
use Rattle.dh_ddl.specs.Versions.{schema_of}
use Rattle.dh_ddl.specs.Making.{HasGrown}
use Rattle.dh_ddl.specs.MetaTable.{meta}
use Rattle.dh_sql.specs.Changes.{IsSame}
use Rattle.dh_sql.specs.Shape.{rows_in}
use Rattle.dh_sql.proofs.Lists.{all_at}
use Rattle.dh_sql.proofs.Staying.{same_tree}
use Rattle.dh_tables.specs.Calls.{CommitsNothing, IsUndone, StaysInTransaction}
use Rattle.dh_tables.specs.MetaTable.{AreMonths, HasItsRow, SetsMonths, SetsVersion, meta_columns, meta_rows}
use Rattle.dh_schema.specs.Kinds.{place_of, shape_of, table_of}
use Rattle.dh_schema.specs.Store.{HasItsSchema, IsWriting, tables}
use Rattle.dh_schema.specs.Tables.{AreInOrder, IsTableInOrder, books_in, months_of, records_in, rows_since, version_of_tables}
use Rattle.dh_schema.proofs.Changing.{set_beside, told}
use Rattle.dh_schema.proofs.Installing.{bare_in_order, no_records, none_since}
use Rattle.dh_schema.proofs.EachKind.{listed, same_but, tree_is}
use Rattle.dh_schema.specs.Putting.{TurnsBooks}
use Rattle.dh_schema.proofs.Putting.{turns_then}
use Rattle.dh_runs.specs.Migrated.{as_second, migrated, no_fee, with_no_fees}

module _ (old : State) (writing : IsWriting old) (first : version_of_tables old.now.trees ≡ First) where
  pub was_first : old.now.schema ≡ first_schema
  was_first = writing.version ∙ ap schema_of first

  module _ (mid : State) (grown : HasGrown old mid) where
    -- a table of the first version keeps its rows
    kept_at : (at : ℕ) (table : Table) → slice_get first_tables at ≡ Some table → mid.now.trees table.tree ≡ old.now.trees table.tree
    kept_at at table there = all_at (λ (t : Table). mid.now.trees t.tree ≡ old.now.trees t.tree) first_tables at table grown.kept there

    meta_kept : mid.now.trees 0 ≡ old.now.trees 0
    meta_kept = kept_at 0 meta refl

    pub row_there : HasItsRow mid.now.trees
    row_there = (
      writing.in_order.months,
      subst (λ rows. AreMonths writing.in_order.months (map meta_columns rows)) (sym meta_kept) writing.in_order.meta,
    )

    module _ (new : State) (set : SetsVersion Second mid new) where
      abbrev second : Months
      second = record set.0 { version = Second }

      its : SetsMonths second mid new
      its = set.2

      version_is : version_of_tables new.now.trees ≡ Second
      version_is = ap (λ (m : Months). m.version) (told second new.now.trees its.months_are)

      schema_is : new.now.schema ≡ our_schema
      schema_is = its.schema_is ∙ grown.writing.schema_is

      its_schema : HasItsSchema new
      its_schema = schema_is ∙ ap schema_of (sym version_is)

      -- the second step leaves each table but meta
      set_kept : (j : Kind) → HasKind Second j → new.now.trees (table_of j).tree ≡ mid.now.trees (table_of j).tree
      set_kept = set_beside second Second mid new grown.writing.schema_is its

      tree_stays : (j : Kind) → HasKind First j → HasKind Second j → new.now.trees (shape_of j).tree ≡ old.now.trees (shape_of j).tree
      tree_stays j here has =
          subst (λ n. new.now.trees n ≡ old.now.trees n) (tree_is j) (set_kept j has ∙ kept_at (place_of j) (table_of j) (listed First j here))

      no_fee_of_a_branch : new.now.trees (shape_of BranchFees).tree ≡ []
      no_fee_of_a_branch = set_kept BranchFees refl ∙ grown.empty.0

      no_fee_of_a_part : new.now.trees (shape_of PartFees).tree ≡ []
      no_fee_of_a_part = set_kept PartFees refl ∙ grown.empty.1.0

      no_ending : new.now.trees (shape_of Endings).tree ≡ []
      no_ending = set_kept Endings refl ∙ grown.empty.1.1.0

      -- ---- each kind

      same : (j : Kind) → HasKind First j → HasKind Second j → IsSame (shape_of j) (order_of j) old.now.trees new.now.trees
      same j here has = same_tree (shape_of j) (order_of j) old.now.trees new.now.trees (tree_stays j here has)

      stays : (j : Kind) → HasKind First j → HasKind Second j → IsTableInOrder j new.now.trees
      stays j here has =
          let before = writing.in_order.tables j (subst (λ (v : Version). HasKind v j) (sym first) here) in
          record { kept = (same j here has).kept before.kept; apart = (same j here has).apart before.apart }

      each : (j : Kind) → IsTableInOrder j new.now.trees
      each BranchFees = bare_in_order BranchFees new.now.trees no_fee_of_a_branch
      each PartFees = bare_in_order PartFees new.now.trees no_fee_of_a_part
      each Endings = bare_in_order Endings new.now.trees no_ending
      each kind = stays kind tt tt

      in_order : AreInOrder new.now.trees
      in_order = record {
        listed = subst (λ (s : Schema). catalog.IsSound s new.now.trees) (grown.writing.schema_is ∙ ap schema_of (sym version_is)) its.listed;
        months = second;
        meta = its.months_are;
        tables = λ j here. each j;
      }

      -- there were no records of a kind that came with the second version, and there are none now
      none_still : (j : Kind) → came_with j ≡ Second → new.now.trees (shape_of j).tree ≡ [] → records_in j new.now.trees ≡ records_in j old.now.trees
      none_still j later none =
          let version = version_of_tables new.now.trees in
          let rows = rows_in (shape_of j) {R = order_of j} old.now.trees in
          ap (rows_since (came_with j) version) (no_records (shape_of j) (order_of j) new.now.trees none)
          ∙ none_since (came_with j) version
          ∙ (λ i. rows_since (sym later i) First rows)
          ∙ (λ i. rows_since (came_with j) (sym first i) rows)

      records_are : (j : Kind) → records_in j new.now.trees ≡ records_in j old.now.trees
      records_are BranchFees = none_still BranchFees refl no_fee_of_a_branch
      records_are PartFees = none_still PartFees refl no_fee_of_a_part
      records_are Endings = none_still Endings refl no_ending
      records_are kind = (same kind tt tt).rows

      -- the months are those that they were
      months_are : set.0 ≡ months_of (meta_rows old.now.trees)
      months_are = sym (told set.0 mid.now.trees set.1) ∙ ap (λ (rows : List Row). months_of (map meta_columns rows)) meta_kept

      pub books_are : books_in new.now.trees ≡ as_second (books_in old.now.trees)
      books_are =
          let now = told second new.now.trees its.months_are in
          same_but old.now.trees (books_in old.now.trees).first (books_in old.now.trees).next Second new.now.trees records_are
          (ap (λ (m : Months). m.first) now ∙ ap (λ (m : Months). m.first) months_are)
          (ap (λ (m : Months). m.next) now ∙ ap (λ (m : Months). m.next) months_are) version_is

      pub writing_second : StaysInTransaction mid new → IsWriting new
      writing_second on = record {
        is_open = on.is_open;
        inside = on.mode;
        schema = inr schema_is;
        version = its_schema;
        in_order = in_order;
      }

-- ---- both calls

-- the later tables were made, and then the version was set
pub made_second : (old mid new : State) (r : Result (Unit {0}) Error) → (HasCleanDisk old → IsWriting old)
    → (HasCleanDisk old → version_of_tables old.now.trees ≡ First)
    → (HasCleanDisk mid → HasGrown old mid) → (HasCleanDisk mid → KeepsCommit old mid) → CommitsNothing old mid
    → (HasCleanDisk new → OnOk r (StaysInTransaction mid new)) → (HasCleanDisk new → OnOk r (SetsVersion Second mid new))
    → (HasCleanDisk new → OnErr r (IsUndone mid new)) → CommitsNothing mid new → TurnsBooks as_second r old new
made_second old mid new r writing first grown =
    turns_then as_second r old mid new (λ early half on set.
    (writing_second old (writing early) (first early) mid (grown half) new set on, books_are old (writing early) (first early) mid (grown half) new set))

-- ---- and the fee rows

-- tables of the first version have no fee row
pub no_fee_rows : (s : State) → version_of_tables s.now.trees ≡ First → (tables s).books.part_fees ≡ empty
no_fee_rows s first = ap (λ (v : Version). rows_since Second v (rows_in (shape_of PartFees) {R = order_of PartFees} s.now.trees)) first

-- the fee rows of all parts make the books the migrated ones
pub as_migrated : (parts : List Part) (r : Result (Unit {0}) Error) (old new : State)
    → (HasCleanDisk old → version_of_tables old.now.trees ≡ First) → (HasCleanDisk old → parts ≡ values (tables old).books.parts)
    → TurnsBooks (λ books. with_no_fees parts (as_second books)) r old new → TurnsBooks migrated r old new
as_migrated parts r old new first all puts = record {
  put = λ clean.
      let early : HasCleanDisk old = omega (arith, puts.crash.clean, clean) in
      let books = (tables old).books in
      let is : with_no_fees parts (as_second books) ≡ migrated books = λ i. record (as_second books) {
        part_fees = with_rows part_fee_key (map no_fee (all early i)) (no_fee_rows old (first early) i);
      } in
      subst (λ (after : Books). OnOk r (IsWriting new × ((tables new).books ≡ after))) is (puts.put clean);
  kept = puts.kept;
  crash = puts.crash;
}

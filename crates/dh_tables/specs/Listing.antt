-- Reading a whole table, of which no more is known than its schema.
use Rattle.std.specs.Prelude.{◌≡◌, ℕ, true, List, [], ◌∷◌, codes, map}
use Rattle.std.specs.declared.cmp.Ordering.{Ordering}
use Rattle.std.specs.Ordering.{eq_by_cmp, int_cmp}
use Rattle.std.specs.List.{AllByRecursion, IsDistinct}
use Rattle.sqlite_value.specs.Order.{Row}
use Rattle.sqlite_sql.specs.Term.{col}
use Rattle.sqlite_trees.specs.Tree.{Trees, rowid}
use Rattle.sqlite_trees.specs.View.{is_int}
use Rattle.sqlite_rules.specs.Edit.{id_in}
use Rattle.dh_model.specs.Books as machine
use Rattle.sqlite_schema.specs.declared.schema.Schema.{Schema}
use Rattle.dh_types.specs.declared.version.Version.{Version}
use Rattle.dh_ddl.specs.Versions.{HasSince}
use Rattle.dh_sql.specs.Queries.{shows}
use Rattle.dh_sql.specs.Shape.{AreApart, IsKept, IsStored, Shape, rows_in, stored_in}
use Rattle.dh_sql.specs.Texts.{IsSelectText}
use Rattle.dh_tables.specs.Commands.{Named, select_text}
use Rattle.dh_tables.specs.Tables.{Accessor}

-- SELECT columns FROM table, and SELECT rowid FROM table
abbrev pub select_rows_text : Named → List ℕ
select_rows_text named = select_text named.table named.names

abbrev pub select_rowids_text : Named → List ℕ
select_rowids_text named = select_text named.table (codes "rowid" ∷ [])

-- under this schema the one shows rows, and the other rowids
abbrev pub ListsRows : ℕ → Named → Schema → Type 0
ListsRows tree named s = IsSelectText (select_rows_text named) s tree [] named.shown [] named.names

abbrev pub ListsRowids : ℕ → Named → Schema → Type 0
ListsRowids tree named s = IsSelectText (select_rowids_text named) s tree [] (col 1 0 ∷ []) [] (named.rowid_name ∷ [])

-- the texts show the columns of each row, and the rowid of each
pub record IsListing (since : Version) (tree : ℕ) (columns : Row → Row) (named : Named) : Type 0 where
  pub selects : (s : Schema) → HasSince since s → ListsRows tree named s
  pub shows_columns : (r : Row) → shows named.shown [] r ≡ columns r
  pub selects_rowid : (s : Schema) → HasSince since s → ListsRowids tree named s

-- the row of a rowid alone
abbrev pub rowid_alone : Row → Row
rowid_alone r = rowid r ∷ []

-- each rowid is a whole number
abbrev pub AreWhole : List Row → Type 0
AreWhole rows = AllByRecursion (λ row. is_int (rowid row) ≡ true) rows

-- each row has a whole number as its rowid, and none has that of another
pub record AreNumbered (rows : List Row) : Type 0 where
  pub whole : AreWhole rows
  pub once : IsDistinct (eq_by_cmp int_cmp) (map (λ row. id_in (rowid row)) rows)

-- rowids are whole numbers, and each is of one row
pub record HasRowids (rows : List Row) : Type 0 where
  pub whole : AreWhole rows
  pub apart : AreApart rows

module _ {K X : Type 0} (it : Shape K X) (R : K → K → Ordering) (trees : Trees) where
  -- no row has the key of another
  abbrev pub HasUniqueKeys : Type 0
  HasUniqueKeys = IsDistinct (eq_by_cmp R) (map (λ r. it.key (stored_in it r)) (trees it.tree))

  -- what a table must have to be loaded: each rowid is a whole number, and no row has the rowid or the key of another
  pub record HasUniqueRows : Type 0 where
    pub rowids : AreNumbered (trees it.tree)
    pub keys : HasUniqueKeys

module _ {K X : Type 0} (it : Shape K X) (R : K → K → Ordering) (accessor : Accessor K X R) (trees : Trees) (old new : machine.State) where
  -- each row is a record, each key is there once, and the books have the records
  pub record IsGathered : Type 0 where
    pub values : AllByRecursion (IsStored it) (trees it.tree)
    pub keys : HasUniqueKeys it R trees
    pub books : new ≡ accessor.with old (rows_in it trees)

  -- the table is in order, and the books have its records
  pub record IsLoaded : Type 0 where
    pub kept : IsKept it R trees
    pub apart : AreApart (trees it.tree)
    pub books : new ≡ accessor.with old (rows_in it trees)

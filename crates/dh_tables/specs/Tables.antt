-- What a kind of record has to have for a table of its own.
use Rattle.std.specs.Prelude.{◌≡◌, ℕ, Bool, true, List, [], ◌∷◌, ◌++◌, ◌+◌, length, map, flat_map, take, drop, Some, slice_get}
use Rattle.std.specs.declared.cmp.Ordering.{Ordering}
use Rattle.std.specs.FinMap.{FinMap}
use Rattle.sqlite_value.specs.declared.value.Value.TheVariants.{Null}
use Rattle.sqlite_value.specs.Order.{Row}
use Rattle.sqlite_sql.specs.Term.{Term}
use Rattle.sqlite_schema.specs.declared.schema.Table.{Table}
use Rattle.sqlite_trees.specs.View.{is_int}
use Rattle.sqlite_trees.specs.Tree.{rowid}
use Rattle.sqlite_rules.specs.Cast.{cast_row}
use Rattle.sqlite_rules.specs.Edit.{with_rowid}
use Rattle.sqlite_rules.specs.declared.error.Rowids.TheVariants.{Chosen}
use Rattle.dh_model.specs.Books.{State}
use Rattle.sqlite_schema.specs.declared.schema.Schema.{Schema}
use Rattle.dh_ddl.specs.Layout.{our_schema}
use Rattle.dh_types.specs.declared.version.Version.{Version}
use Rattle.dh_ddl.specs.Versions.{HasSince}
use Rattle.dh_sql.specs.Shape.{Shape}
use Rattle.dh_sql.specs.Texts.{IsInsertText}
use Rattle.dh_tables.specs.Commands.{Named, insert_rows_text, insert_text, put_apart}

-- where the books have the records of one kind, and the books with others
pub record Accessor (K X : Type 0) (R : K → K → Ordering) : Type 0 where
  pub held : State → FinMap R X
  pub with : State → FinMap R X → State
  pub held_with : (s : State) (m : FinMap R X) → held (with s m) ≡ m
  pub with_with : (s : State) (m n : FinMap R X) → with (with s m) n ≡ with s n
  pub with_held : (s : State) → with s (held s) ≡ s

-- the text that adds a row to the table at this place of the schema, with what it puts together
pub record Adding (X : Type 0) : Type 0 where
  pub text : List ℕ
  pub place : ℕ
  pub table : Table
  pub terms : List Term
  pub width : ℕ
  -- the row that a record becomes: its rowid, or NULL where the store chooses one, and then a value a column
  pub source : X → Row

-- the row of a record whose key is not its rowid
abbrev pub without_rowid : {X : Type 0} → (X → Row) → X → Row
without_rowid row x = Null ∷ row x

-- the row of one whose key is: its own column holds NULL
abbrev pub own_rowid : {X : Type 0} → (X → Row) → X → Row
own_rowid row x = take 1 (row x) ++ Null ∷ drop 1 (row x)

-- the text for a table of these columns
abbrev pub adding_to : {X : Type 0} → Named → ℕ → Table → (X → Row) → Adding X
adding_to columns place table source = record {
  text = insert_text columns.table columns.names;
  place = place;
  table = table;
  terms = columns.put;
  width = length columns.names + 1;
  source = source;
}

-- under this schema the text adds the row of each record
abbrev pub IsInsertOf : {X : Type 0} → (X → Row) → Adding X → Schema → Type 0
IsInsertOf {X} row adding s =
    (x : X) → IsInsertText adding.text s adding.place adding.table adding.terms adding.width (row x) (adding.source x ∷ [])

-- and one text those of so many records, one behind the other
abbrev pub IsInsertOfEach : {X : Type 0} → ℕ → (X → Row) → Adding X → Named → Schema → Type 0
IsInsertOfEach {X} count row adding named s =
    (xs : List X) → length xs ≡ count
    → IsInsertText (insert_rows_text count named.table named.names) s adding.place adding.table (put_apart count 0 named.names) adding.width
    (flat_map row xs) (map adding.source xs)

-- the text adds the row of a record, which is read back as the record
pub record IsAdding {K X : Type 0} (since : Version) (it : Shape K X) (row : X → Row) (is_row : Row → Bool) (adding : Adding X) : Type 0 where
  pub tree_is : adding.table.tree ≡ it.tree
  pub listed : slice_get our_schema.tables adding.place ≡ Some adding.table
  pub inserts : (s : Schema) → HasSince since s → IsInsertOf row adding s
  pub stays : (x : X) → is_row (row x) ≡ true → cast_row adding.table (adding.source x) ≡ adding.source x
  pub columns : (x : X) (rows : List Row) → it.columns (with_rowid Chosen rows (adding.source x)) ≡ row x
  pub keyed : (x : X) (rows : List Row) → is_int (rowid (with_rowid Chosen rows (adding.source x))) ≡ true

-- the shape of a kind of record is made of what its rows are
pub record HasShape {K X : Type 0} (it : Shape K X) (is_row : Row → Bool) (decode : Row → X) (key : X → K) : Type 0 where
  pub is_row_is : (r : Row) → it.is_row r ≡ is_row r
  pub row_in_is : (r : Row) → it.row_in r ≡ decode r
  pub key_is : (x : X) → it.key x ≡ key x

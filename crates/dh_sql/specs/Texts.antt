-- What a text means under a schema, for each kind of statement on one table.
use Rattle.std.specs.Prelude.{◌≡◌, ◌/◌, ℕ, List, [], length, slice_get, false, Some}
use Rattle.sqlite_value.specs.declared.keys.Key.{Key}
use Rattle.sqlite_value.specs.Order.{Row}
use Rattle.sqlite_schema.specs.declared.schema.Keys.TheVariants.{Enforced}
use Rattle.sqlite_schema.specs.declared.schema.Schema.{Schema}
use Rattle.sqlite_schema.specs.declared.schema.Table.{Table}
use Rattle.sqlite_rules.specs.Action.{works}
use Rattle.sqlite.specs.Source.TheVariants.{Values}
use Rattle.sqlite.specs.Command.TheVariants.{Insert, Select, Update}
use Rattle.sqlite.specs.Effect.{value_rows}
use Rattle.sqlite.specs.Listing.{reads_listing, understood}
use Rattle.sqlite.specs.Program.{overlay}
use Rattle.sqlite.specs.Rows.{stamped}
use Rattle.sqlite.specs.Term.{Term}
use Rattle.sqlite.specs.Tree.{Trees}
use Rattle.sqlite.proofs.Callers.{IsPlain, command_of}
use Rattle.dh_sql.specs.Queries.{last_query, plain_query}

-- no AUTOINCREMENT, and no default that reads the time
abbrev pub uncounted : Table → Table
uncounted t = record t { is_counted = false; stamps = record { places = []; terms = []; formats = [] } }

-- no reference has an action, so that a write is its one step
abbrev pub IsQuiet : Schema → Type 0
IsQuiet schema = (tree : ℕ) (olds news : List Row) → works schema Enforced 0 tree olds news ≡ []

-- INSERT INTO table VALUES (terms), ..: with these parameters it adds so many rows, which are the sources before they are cast
pub record IsInsertText
    (text : List ℕ) (schema : Schema) (at : ℕ) (table : Table) (terms : List Term) (width : ℕ) (params : Row) (sources : List Row) : Type 0 where
  pub command : command_of (understood schema text) ≡ Insert at (Values terms width)
  pub plain : IsPlain (understood schema text)
  pub listed : slice_get schema.tables at ≡ Some table
  pub is_uncounted : table.is_counted ≡ false
  pub value : value_rows (stamped table params) width (length terms / width) terms ≡ sources

-- SELECT project FROM tree WHERE tests ORDER BY order
pub record IsSelectText
    (text : List ℕ) (schema : Schema) (tree : ℕ) (tests project : List Term) (order : List (Term × Key)) (names : List (List ℕ)) : Type 0 where
  pub command : command_of (understood schema text) ≡ Select (record { lets = []; body = plain_query tree tests project order }) names
  pub unlisted : reads_listing schema text ≡ false
  pub plain : IsPlain (understood schema text)
  pub stored : (db : Trees) → overlay db [] tree ≡ db tree

-- SELECT project FROM tree ORDER BY key DESC LIMIT 1
pub record IsLastText (text : List ℕ) (schema : Schema) (tree : ℕ) (project : List Term) (key : Term) (names : List (List ℕ)) : Type 0 where
  pub command : command_of (understood schema text) ≡ Select (record { lets = []; body = last_query tree project key }) names
  pub unlisted : reads_listing schema text ≡ false
  pub plain : IsPlain (understood schema text)
  pub stored : (db : Trees) → overlay db [] tree ≡ db tree

-- UPDATE table SET .. WHERE tests: the query shows the rowid, and then the stored row as it is to be
pub record IsUpdateText (text : List ℕ) (schema : Schema) (at : ℕ) (table : Table) (tests project : List Term) : Type 0 where
  pub command : command_of (understood schema text) ≡ Update at (record { lets = []; body = plain_query table.tree tests project [] })
  pub plain : IsPlain (understood schema text)
  pub listed : slice_get schema.tables at ≡ Some (uncounted table)
  pub stored : (db : Trees) → overlay db [] table.tree ≡ db table.tree

-- When a text makes a table or an index, or takes an index away, and when texts make a whole schema.
use Rattle.std.specs.Prelude.{◌≡◌, ◌⊎◌, ℕ, List, [], ◌∷◌, slice_get, false, Ok, Some}
use Rattle.sqlite_resolve.specs.Compile.{table_defined_by, index_defined_by}
use Rattle.sqlite_schema.specs.declared.schema.Table.{Table}
use Rattle.sqlite_schema.specs.declared.schema.Index.{Index}
use Rattle.sqlite_schema.specs.declared.schema.Schema.{Schema}
use Rattle.sqlite_schema.specs.declared.command.Command.TheVariants.{CreateTable, CreateIndex, DropIndex}
use Rattle.sqlite_catalog.specs.Change.{created, indexed, without_index}
use Rattle.sqlite.specs.Does.{lacks_sequence}
use Rattle.sqlite.specs.Listing.{understood}
use Rattle.sqlite.proofs.Callers.{IsPlain, command_of, statement_of}

-- under the first schema the text makes a table, and then the schema is the second
pub record MakesTable (text : List ℕ) (before after : Schema) : Type 0 where
  pub table : Table
  pub command : command_of (understood before text) ≡ CreateTable
  pub whole : statement_of text (understood before text) ≡ text
  pub defines : table_defined_by text ≡ Ok table
  pub plain : IsPlain (understood before text)
  pub grows : created before table ≡ after
  pub uncounted : lacks_sequence after ≡ false

-- the same of an index on the table at this place
pub record MakesIndex (text : List ℕ) (before after : Schema) : Type 0 where
  pub at : ℕ
  pub table : Table
  pub index : Index
  pub command : command_of (understood before text) ≡ CreateIndex at
  pub whole : statement_of text (understood before text) ≡ text
  pub plain : IsPlain (understood before text)
  pub listed : slice_get before.tables at ≡ Some table
  pub defines : index_defined_by table text ≡ Ok index
  pub grows : indexed before table index ≡ after

-- it takes away the index at this place
pub record DropsIndex (text : List ℕ) (before after : Schema) : Type 0 where
  pub at : ℕ
  pub index : Index
  pub command : command_of (understood before text) ≡ DropIndex at
  pub whole : statement_of text (understood before text) ≡ text
  pub plain : IsPlain (understood before text)
  pub listed : slice_get before.indexes at ≡ Some index
  pub leaves : without_index before index.tree ≡ after

abbrev pub Turns : List ℕ → Schema → Schema → Type 0
Turns text before after = MakesTable text before after ⊎ MakesIndex text before after ⊎ DropsIndex text before after

-- the texts, one after the other, make the second schema of the first
abbrev pub Build : List (List ℕ) → Schema → Schema → Type 0
Build [] before after = before ≡ after
Build (text ∷ texts) before after = (next : Schema) × Turns text before next × Build texts next after

-- What a store shows while its tables are made.
use Rattle.std.specs.Prelude.{◌≡◌, ◌++◌, ℕ, List, [], map, IsTrue}
use Rattle.std.specs.Borrow.{Bor}
use Rattle.std.specs.List.{AllByRecursion}
use Rattle.sqlite_trees.specs.Tree.{Trees}
use Rattle.sqlite_schema.specs.declared.schema.Table.{Table}
use Rattle.sqlite_schema.specs.declared.schema.Schema.{Schema}
use Rattle.sqlite_catalog.specs.Change.{KeepsRows}
use Rattle.sqlite.specs.Effect.{Database}
use Rattle.sqlite.specs.State.{State}
use Rattle.dh_ddl.specs.Layout.{first_tables, later_tables, our_schema}
use Rattle.dh_types.specs.declared.version.Version.{Version}
use Rattle.dh_ddl.specs.Versions.{schema_of}
use Rattle.dh_ddl.specs.Meanings.{Build}

-- Within a transaction, over a store of this schema.
pub record IsWritingOn (schema : Schema) (s : State) : Type 0 where
  pub inside : IsTrue s.in_transaction
  pub schema_is : s.now.schema ≡ schema

-- None of the tables has a row.
abbrev pub AreEmpty : List Table → Trees → Type 0
AreEmpty tables trees = AllByRecursion (λ table. trees table.tree ≡ []) tables

-- Within a transaction, over a store that has the tables and indexes of a version, and not a row.
abbrev pub HasEmptyTables : Version → State → Type 0
HasEmptyTables version s = IsWritingOn (schema_of version) s × AreEmpty (schema_of version).tables s.now.trees

-- Within a transaction, a store of the first version has got the later tables, which have no row. The others keep theirs.
pub record HasGrown (old new : State) : Type 0 where
  pub writing : IsWritingOn our_schema new
  pub kept : KeepsRows first_tables old.now.trees new.now.trees
  pub empty : AreEmpty later_tables new.now.trees

-- The tables that were there keep their rows. Those that were made come behind them and have none.
pub record Adds (old new : Database) : Type 0 where
  pub made : List Table
  pub behind : new.schema.tables ≡ old.schema.tables ++ made
  pub rows : KeepsRows old.schema.tables old.trees new.trees
  pub empty : AreEmpty made new.trees

-- Where the texts build a schema of the one that was, they have made it.
abbrev pub Makes : List (List ℕ) → State → State → Type 0
Makes texts old new = (after : Schema) → Build texts old.now.schema after → IsWritingOn after new × Adds old.now new.now

-- the texts themselves
abbrev pub all_of : List (Bor (List ℕ)) → List (List ℕ)
all_of texts = map (λ text. text.now) texts

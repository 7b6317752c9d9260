-- A change of one record, told to its table by a fixed text.
use Rattle.std.specs.Prelude.{◌≡◌, ℕ, true, List, drop}
use Rattle.sqlite_value.specs.Order.{Row}
use Rattle.sqlite_sql.specs.Term.{Term}
use Rattle.sqlite_schema.specs.declared.schema.Table.{Table}
use Rattle.sqlite_trees.specs.Tree.{rowid}
use Rattle.sqlite_trees.specs.View.{is_int}
use Rattle.sqlite_schema.specs.declared.schema.Schema.{Schema}
use Rattle.dh_types.specs.declared.version.Version.{Version}
use Rattle.dh_ddl.specs.Versions.{HasSince}
use Rattle.dh_sql.specs.Changes.{IsTurnedInto}
use Rattle.dh_sql.specs.Queries.{passes_all, shows}
use Rattle.dh_sql.specs.Shape.{IsStored, Shape, stored_in}
use Rattle.dh_sql.specs.Texts.{IsUpdateText}

-- UPDATE table SET .. WHERE tests
pub record Amending (Q : Type 0) : Type 0 where
  pub text : List ℕ
  pub place : ℕ
  pub table : Table
  pub tests : List Term
  pub project : List Term
  pub given : Q → Row

-- under this schema the text does this
abbrev pub Updates : {Q : Type 0} → Amending Q → Schema → Type 0
Updates amending s = IsUpdateText amending.text s amending.place amending.table amending.tests amending.project

-- the text finds the row of the key and makes it that of the amended record
pub record IsAmending {K X Q : Type 0} (since : Version) (it : Shape K X) (amending : Amending Q) (can_amend : Q → Type 0) (key : Q → K)
    (amended : Q → X → X)
    : Type 0 where
  pub means : (s : Schema) → HasSince since s → Updates amending s
  pub tree_is : amending.table.tree ≡ it.tree
  pub finds : (q : Q) (r : Row) → IsStored it r
      → (passes_all (amending.given q) amending.tests r ≡ true → it.key (stored_in it r) ≡ key q)
      × (it.key (stored_in it r) ≡ key q → passes_all (amending.given q) amending.tests r ≡ true)
  pub keeps_rowid : (q : Q) (r : Row) → rowid (shows amending.project (amending.given q) r) ≡ rowid r
  pub turns : (q : Q) (r : Row) → can_amend q → IsStored it r → is_int (rowid r) ≡ true
      → IsTurnedInto it amending.table r (drop 1 (shows amending.project (amending.given q) r)) (amended q (stored_in it r))
  pub keeps_key : (q : Q) (x : X) → it.key (amended q x) ≡ it.key x

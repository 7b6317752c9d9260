-- The version of a file.
use Rattle.std.specs.Prelude.{◌≡◌, ℤ, pos, List, [], ◌∷◌, Option, Some, None}
use Rattle.sqlite_value.specs.declared.value.Value.{Value}
use Rattle.sqlite_value.specs.declared.value.Value.TheVariants.{Int}
use Rattle.sqlite_value.specs.Order.{Row, column}
use Rattle.sqlite.specs.State.{State}
use Rattle.dh_types.specs.declared.version.Version.{Version}
use Rattle.dh_rows.specs.Cells.{version_number}
use Rattle.dh_ddl.specs.Versions.{schema_of}
use Rattle.dh_tables.specs.MetaTable.{meta_rows}

-- whose tables a file has, and the number that meta gives
pub record VersionFound : Type 0 where
  pub tables : Version
  pub number : ℤ

abbrev pub whole_number : Value → Option ℤ
whole_number (Int n) = Some n
whole_number _ = None

-- that of meta's only row
abbrev pub only_version : List Row → Option ℤ
only_version (row ∷ []) = whole_number (column row 1)
only_version _ = None

-- meta gives one of our versions, and the tables are not those of it
abbrev pub GivesAnother : State → Type 0
GivesAnother s = (version : Version) × (only_version (meta_rows s.now.trees) ≡ Some (pos (version_number version)))
    × ((s.now.schema ≡ schema_of version) → ⊥)

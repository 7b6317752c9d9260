-- The table meta, which has one row: the version and the months.
use Rattle.std.specs.Prelude.{◌≡◌, ℕ, true, List, [], ◌∷◌, map, Option, Some, None}
use Rattle.sqlite_value.specs.Order.{Row, column}
use Rattle.sqlite_trees.specs.Tree.{Trees}
use Rattle.sqlite_catalog.specs.Listing as catalog
use Rattle.sqlite.specs.State.{State}
use Rattle.dh_types.specs.declared.version.Version.{Version}
use Rattle.dh_rows.specs.Months.{Months}
use Rattle.dh_rows.specs.MetaRows.{meta_row, is_meta_row}
use Rattle.dh_sql.specs.Changes.{OthersStay}

-- the key is the rowid, and its own column holds NULL
abbrev pub meta_columns : Row → Row
meta_columns row = column row 0 ∷ column row 2 ∷ column row 3 ∷ column row 4 ∷ []

abbrev pub meta_rows : Trees → List Row
meta_rows trees = map meta_columns (trees 0)

-- the one row is that of these months
pub record AreMonths (months : Months) (rows : List Row) : Type 0 where
  pub rows_are : rows ≡ meta_row months ∷ []
  pub grammar : is_meta_row (meta_row months) ≡ true

abbrev pub HasMonths : Months → Trees → Type 0
HasMonths months trees = AreMonths months (meta_rows trees)

-- the months of the rows where they are such a row, and None where they are none
abbrev pub AreFound : List Row → Option Months → Type 0
AreFound rows None = (m : Months) → AreMonths m rows → ⊥
AreFound rows (Some m) = AreMonths m rows

-- the table has these months now, and all else is as it was
pub record SetsMonths (months : Months) (old new : State) : Type 0 where
  pub schema_is : new.now.schema ≡ old.now.schema
  pub listed : catalog.IsSound old.now.schema new.now.trees
  pub months_are : HasMonths months new.now.trees
  pub others : OthersStay old.now.schema 0 old.now.trees new.now.trees

-- the table has its row
abbrev pub HasItsRow : Trees → Type 0
HasItsRow trees = (m : Months) × HasMonths m trees

-- the month to be run next is this one, and the first month what it was
abbrev pub SetsNext : ℕ → State → State → Type 0
SetsNext next old new = (m : Months) × HasMonths m old.now.trees × SetsMonths (record m { next = next }) old new

-- the version is this one, and the months what they were
abbrev pub SetsVersion : Version → State → State → Type 0
SetsVersion version old new = (m : Months) × HasMonths m old.now.trees × SetsMonths (record m { version = version }) old new

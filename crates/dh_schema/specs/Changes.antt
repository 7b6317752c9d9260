-- Rows of a change that are put into the tables.
use Rattle.std.specs.Prelude.{◌≡◌, Some, Result}
use Rattle.std.specs.FinMap.{get, insert}
use Rattle.sqlite.specs.declared.error.Error.{Error}
use Rattle.sqlite.specs.State.{State}
use Rattle.dh_types.specs.declared.version.Version.{Version}
use Rattle.dh_model.specs.declared.rows.Change.{Change}
use Rattle.dh_model.specs.Books.{Books}
use Rattle.dh_model.specs.Edits.{came_with_edit, edit_of}
use Rattle.dh_model.specs.Kinds.{IsSince, came_with, key_in, record_of, records_of, with_records}
use Rattle.dh_model.specs.Machine.{changed}
use Rattle.dh_laws.specs.Looks.{FitsIn}
use Rattle.dh_tables.specs.Kinds.{IsKind, Stored}
use Rattle.dh_schema.specs.Putting.{TurnsBooks}

-- at Ok the books have the rows of the change
abbrev pub PutsRows : Change → Result (Unit {0}) Error → State → State → Type 0
PutsRows rows result old new = TurnsBooks (changed rows) result old new

-- the version that the table of the rows came with
abbrev pub came_with_rows : Change → Version
came_with_rows rows = came_with_edit (edit_of rows)

-- books of the version have a place for the rows
abbrev pub HasPlace : Version → Change → Type 0
HasPlace version rows = IsSince (came_with_rows rows) version

-- The change makes this of the row that has the key.
pub record TurnsInto {it : Stored} (is : IsKind it) (rows : Change) (key : it.Key) (into : it.Row → it.Row) : Type 0 where
  pub came : came_with_rows rows ≡ came_with is.kind
  pub there : (books : Books) → FitsIn rows books → (row : record_of is.kind) × (get (records_of is.kind books) (is.as_key key) ≡ Some row)
  pub makes : (books : Books) (row : record_of is.kind) → get (records_of is.kind books) (is.as_key key) ≡ Some row → key_in is.kind row ≡ is.as_key key
      → with_records is.kind (insert (records_of is.kind books) (is.as_key key) (is.as_row (into (is.of_row row)))) books ≡ changed rows books

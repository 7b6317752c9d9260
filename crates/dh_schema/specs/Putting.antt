-- What rows leave that were put into the tables.
use Rattle.std.specs.Prelude.{◌≡◌, Result, OnOk}
use Rattle.sqlite.specs.declared.error.Error.{Error}
use Rattle.sqlite.specs.State.{HasCleanDisk, KeepsCommit, State}
use Rattle.dh_model.specs.Books.{Books}
use Rattle.dh_tables.specs.Calls.{CommitsNothing}
use Rattle.dh_schema.specs.Store.{IsWriting, tables}

-- At Ok the tables are in order and these are their books, and the transaction goes on. Nothing is committed.
pub record Puts (books : Books) (result : Result (Unit {0}) Error) (old new : State) : Type 0 where
  pub put : HasCleanDisk new → OnOk result (IsWriting new × ((tables new).books ≡ books))
  pub kept : HasCleanDisk new → KeepsCommit old new
  pub crash : CommitsNothing old new

-- at Ok the books are what this makes of them
abbrev pub TurnsBooks : (Books → Books) → Result (Unit {0}) Error → State → State → Type 0
TurnsBooks turned result old new = Puts (turned (tables old).books) result old new

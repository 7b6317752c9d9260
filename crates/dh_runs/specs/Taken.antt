-- What is left of a store whose open run was to be made to its end, whatever came of it.
use Rattle.std.specs.Prelude.{◌≤◌, IsTrue}
use Rattle.sqlite.specs.State.{HasCleanDisk, State}
use Rattle.sqlite_trees.specs.View.{doubt}
use Rattle.dh_tables.specs.Calls.{HasOurTables}
use Rattle.dh_schema.specs.Store.{IsReadyWith, Leaves, tables}
use Rattle.dh_schema.specs.Tables.{IsSound}
use Rattle.dh_runs.specs.Taking.{IsResting, TakesAsTheyAre}
use Rattle.dh_runs.specs.Outcomes.{IsMidRecovery}

-- The open run was made to its end, or to some batch of it; tables that are not sound are as they were.
pub record TakesForward (old new : State) : Type 0 where
  pub was_clean : doubt old.is_clean ≤ doubt new.is_clean
  pub crash : HasCleanDisk new → IsSound old.now.trees → Leaves new (IsMidRecovery (tables old))
  pub untouched : ¬ IsSound old.now.trees → TakesAsTheyAre old new

-- no transaction is open, and the tables are sound, with the open run moved on
abbrev pub RestsMidRecovery : State → State → Type 0
RestsMidRecovery old new = IsResting new × IsSound new.now.trees × IsMidRecovery (tables old) (tables new)

-- What is read of sound tables at a problem, while the store is open.
pub record Halts (old new : State) : Type 0 where
  pub ready : HasCleanDisk new → IsTrue new.is_open → HasOurTables old → IsSound old.now.trees → IsReadyWith new (IsMidRecovery (tables old))
  pub resting : HasCleanDisk new → IsTrue new.is_open → IsSound old.now.trees → RestsMidRecovery old new

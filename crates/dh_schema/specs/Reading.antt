-- What each call promises that only reads the tables.
use Rattle.std.specs.Prelude.{IsTrue, Result, IfErr, OnOk}
use Rattle.sqlite.specs.State.{HasCleanDisk, State}
use Rattle.dh_types.specs.declared.reply.Fault.{Fault}
use Rattle.dh_tables.specs.Calls.{CommitsNothing}
use Rattle.dh_schema.specs.Faults.{IsFirstFault}
use Rattle.dh_schema.specs.Store.{StaysReady}

-- An answer leaves the store ready with the tables that it had, and so does a fault, while the store is open. A fault is of
-- memory or of the store. Nothing is committed.
pub record OnlyReads {X : Type 0} (old new : State) (result : Result X Fault) : Type 0 where
  pub done : HasCleanDisk new → OnOk result (StaysReady old new)
  pub kept : HasCleanDisk new → IsTrue new.is_open → StaysReady old new
  pub cause : IfErr result IsFirstFault
  pub crash : CommitsNothing old new

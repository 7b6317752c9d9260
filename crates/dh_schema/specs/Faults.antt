-- The faults that the store is the cause of.
use Rattle.std.specs.Prelude.{⊤}
use Rattle.sqlite.specs.declared.error.Error.{Error}
use Rattle.sqlite.specs.declared.error.Error.TheVariants.{SqliteFailure}
use Rattle.sqlite.specs.declared.error.ErrorCode.TheVariants.{OutOfMemory}
use Rattle.dh_types.specs.declared.reply.Fault.{Fault}
use Rattle.dh_types.specs.declared.reply.Fault.TheVariants.{Memory, Store, Stopped}

-- want of memory is told as that, and all else as a fault of the store
abbrev pub fault_of : Error → Fault
fault_of (SqliteFailure OutOfMemory) = Memory
fault_of _ = Store

-- Memory ran out or the store failed. That an agency has stopped, only the agency tells.
abbrev pub IsFirstFault : Fault → Type 0
IsFirstFault Memory = ⊤
IsFirstFault Store = ⊤
IsFirstFault Stopped = ⊥

-- Why tables are not loaded.
use Rattle.std.specs.Prelude.{Bool, true, false, ⊤, Result, Ok, Err}
use Rattle.sqlite.specs.declared.error.Error.{Error}
use Rattle.dh_schema.specs.declared.load_fault.LoadFault.{LoadFault}
use Rattle.dh_schema.specs.declared.load_fault.LoadFault.TheVariants as load
use Rattle.dh_schema.specs.Faults.{IsFirstFault, fault_of}

-- so it is, where tables are not loaded for a fault
abbrev pub IsLoadFault : LoadFault → Type 0
IsLoadFault load.Damaged = ⊤
IsLoadFault (load.Fault fault) = IsFirstFault fault

-- memory ran out or the store failed, and nothing is known of damage
abbrev pub IsOfStore : LoadFault → Type 0
IsOfStore load.Damaged = ⊥
IsOfStore (load.Fault fault) = IsFirstFault fault

-- so tables are answered that are not ours, and not read
abbrev pub IsTurnedAway : {X : Type 0} → Result X LoadFault → Type 0
IsTurnedAway (Ok it) = ⊥
IsTurnedAway (Err fault) = IsOfStore fault

-- what the reading of a table comes to, where false says that a row is no record
abbrev pub load_outcome : Result Bool Error → Result (Unit {0}) LoadFault
load_outcome (Ok true) = Ok tt
load_outcome (Ok false) = Err load.Damaged
load_outcome (Err error) = Err (load.Fault (fault_of error))

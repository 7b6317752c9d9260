-- What cuts a piece of work, and what it is told as.
use Rattle.std.specs.Prelude.{Option, Some, None, Result, Ok, Err}
use Rattle.dh_types.specs.declared.reply.Fault.{Fault}
use Rattle.dh_types.specs.declared.reply.Fault.TheVariants as fault
use Rattle.dh_schema.specs.Faults.{IsFirstFault}
use Rattle.dh_runs.specs.declared.problem.Problem.{Problem}
use Rattle.dh_runs.specs.declared.problem.Problem.TheVariants as problem
use Rattle.dh_runs.specs.Taking.{IsOfTables}
use Rattle.dh_lives.specs.declared.cause.Cause.{Cause}
use Rattle.dh_lives.specs.declared.cause.Cause.TheVariants as cause
use Rattle.dh_lives.specs.declared.lives.Lived.{Lived}
use Rattle.dh_lives.specs.declared.lives.Stop.{Stop}

-- a refusal is 16 or 17, and a fault 21 or 22
abbrev pub IsFirstCause : Cause → Type 0
IsFirstCause (cause.Refused why) = IsOfTables why
IsFirstCause (cause.Fault it) = IsFirstFault it

-- why tables are not taken, as a cause
abbrev pub cause_of : Problem → Cause
cause_of (problem.Refused why) = cause.Refused why
cause_of (problem.Fault it) = cause.Fault it

-- what a rehearsal ends with: tables that are refused are not those of an agency, so the store is not clean
abbrev pub fault_of_cause : Cause → Fault
fault_of_cause (cause.Refused why) = fault.Store
fault_of_cause (cause.Fault it) = it

-- a life as it was lived, if nothing cut it, or its own stop by a fault; and otherwise what cut it
abbrev pub life_lived : Lived → Option Cause → Option Stop → Result Lived Cause
life_lived lived None stop = Ok lived
life_lived lived (Some (cause.Fault it)) (Some stop) = Ok lived
life_lived lived (Some it) stop = Err it

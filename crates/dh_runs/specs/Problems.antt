-- What a fault of a load, and an answer of the audit, are told as.
use Rattle.std.specs.Prelude.{Result, Err}
use Rattle.dh_types.specs.declared.reply.Refusal.{Refusal}
use Rattle.dh_types.specs.declared.reply.Refusal.TheVariants as refusal
use Rattle.dh_model.specs.Books.{Books}
use Rattle.dh_model.specs.Runs.{batch_size}
use Rattle.dh_audit.specs.Audit.{IsLeastBroken}
use Rattle.dh_schema.specs.declared.load_fault.LoadFault.{LoadFault}
use Rattle.dh_schema.specs.declared.load_fault.LoadFault.TheVariants as load
use Rattle.dh_schema.specs.Faults.{IsFirstFault}
use Rattle.dh_runs.specs.declared.problem.Problem.{Problem}
use Rattle.dh_runs.specs.declared.problem.Problem.TheVariants as problem

-- damage of columns is rule 0, and a fault is told as what it is
abbrev pub problem_of : LoadFault → Problem
problem_of load.Damaged = problem.Refused (refusal.Damaged 0)
problem_of (load.Fault fault) = problem.Fault fault

-- the rule that is named is the least that is broken
abbrev pub IsBroken : Books → Refusal → Type 0
IsBroken books (refusal.Damaged rule) = IsLeastBroken books batch_size rule
IsBroken books _ = ⊥

-- so books are told that do not meet the rules, or whose audit came to no end
abbrev pub IsFoundIn : Books → Problem → Type 0
IsFoundIn books (problem.Refused why) = IsBroken books why
IsFoundIn books (problem.Fault fault) = IsFirstFault fault

-- so tables are answered that are not ours, and not read
abbrev pub IsNotRead : {X : Type 0} → Result X Problem → Type 0
IsNotRead (Err (problem.Fault fault)) = IsFirstFault fault
IsNotRead _ = ⊥

-- Books that an office works on: each row under its key, the rules hold, and the open run is where the books show it.
use Rattle.std.specs.Prelude.{◌≤◌, ℕ, Option, Some}
use Rattle.dh_values.specs.declared.limits.TheConstants.{LEAST_LEASE_MONTHS}
use Rattle.dh_types.specs.declared.command.Command.{Command}
use Rattle.dh_types.specs.declared.command.Command.TheVariants as command
use Rattle.dh_model.specs.declared.open_run.OpenRun.{OpenRun}
use Rattle.dh_model.specs.declared.rows.Change.{Change}
use Rattle.dh_model.specs.declared.rows.Change.TheVariants as change
use Rattle.dh_model.specs.Books.{Books, StandUnder}
use Rattle.dh_model.specs.Kinds.{Kind, key_in, records_of}
use Rattle.dh_model.specs.Rules.{IsLeaseLength, MeetsRules}
use Rattle.dh_model.specs.Whole.{IsOpenAt}

-- what stands under a key has it, of each kind
abbrev pub AreKeyed : Books → Type 0
AreKeyed books = (kind : Kind) → StandUnder (key_in kind) (records_of kind books)

pub record IsInOrder (size : ℕ) (books : Books) (run : Option OpenRun) : Type 0 where
  pub keyed : AreKeyed books
  pub rules : MeetsRules books size
  pub shown : IsOpenAt size books run

-- what a line can hold of a command, as far as a rule speaks of it
abbrev pub IsEntered : Command → Type 0
IsEntered (command.Lease terms) = IsLeaseLength terms.months
IsEntered (command.End it) = LEAST_LEASE_MONTHS ≤ it.months
IsEntered _ = Unit {0}

-- the open run after a change: an opening begins one with no batch done, all else leaves it
abbrev pub run_after : Option OpenRun → Change → Option OpenRun
run_after run (change.Open row) = Some (record { month = row.month; done = 0 })
run_after run _ = run

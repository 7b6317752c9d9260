-- How far the open run is moved on.
use Rattle.std.specs.Prelude.{ℕ, ◌-◌, min, nat_le, if◌then◌else◌, Option, Some, None}
use Rattle.dh_types.specs.declared.command.Command.{Command}
use Rattle.dh_types.specs.declared.command.Command.TheVariants as command
use Rattle.dh_model.specs.declared.open_run.OpenRun.{OpenRun}
use Rattle.dh_model.specs.Books.{Books}
use Rattle.dh_model.specs.Runs.{batch_size, batches}
use Rattle.dh_laws.specs.StateTables.{advanced_run}
use Rattle.dh_rules.specs.declared.recoveries.Reach.{Reach}
use Rattle.dh_rules.specs.declared.recoveries.Reach.TheVariants as reach

-- the open run, moved so far
abbrev pub moved_run : Books → Reach → Option OpenRun → Option OpenRun
moved_run books (reach.Batches count) run = advanced_run books count run
moved_run books reach.End run = None

-- the batches that the open run lacks
abbrev pub batches_left : Books → Option OpenRun → ℕ
batches_left books None = 0
batches_left books (Some run) = batches batch_size books run.month - run.done

-- as far as that, but by so many batches at most
abbrev pub reach_within : ℕ → ℕ → Reach → Reach
reach_within left most (reach.Batches count) = reach.Batches (min count most)
reach_within left most reach.End = if nat_le left most then reach.End else reach.Batches most

-- the open run where a command was interrupted that changed no books: a `post` may have come so far with its batches
abbrev pub undone_run : Books → Command → Reach → Option OpenRun → Option OpenRun
undone_run books (command.Post count) far run = moved_run books (reach_within (batches_left books run) count far) run
undone_run books _ far run = run

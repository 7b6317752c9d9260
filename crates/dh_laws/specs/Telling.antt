-- What a command makes of tables, answered or interrupted.
use Rattle.std.specs.Prelude.{◌≡◌, ℕ, Bool, true, false, Option, Some, None}
use Rattle.dh_types.specs.declared.command.Command.{Command}
use Rattle.dh_types.specs.declared.command.Command.TheVariants as command
use Rattle.dh_types.specs.declared.command.RunOrder.{RunOrder}
use Rattle.dh_types.specs.declared.reply.Reply.{Reply}
use Rattle.dh_model.specs.declared.rows.Change.{Change}
use Rattle.dh_model.specs.declared.rows.Verdict.{Verdict}
use Rattle.dh_model.specs.declared.rows.Verdict.TheVariants as verdict
use Rattle.dh_model.specs.Books.{State}
use Rattle.dh_model.specs.Machine.{changed, step}
use Rattle.dh_model.specs.Runs.{batch_size}
use Rattle.dh_model.specs.Verdicts.{verdict_on}
use Rattle.dh_model.specs.Whole.{whole}
use Rattle.dh_laws.specs.InOrder.{IsInOrder}
use Rattle.dh_laws.specs.Events.{Happens, IsDone, Answered, state_of}
use Rattle.dh_laws.specs.StateTables.{advanced_run, as_tables}

abbrev pub is_opening : Command → Bool
is_opening (command.Open order) = true
is_opening _ = false

abbrev pub is_run : Command → Bool
is_run (command.Run order) = true
is_run _ = false

-- the tables with the rows of an opening, and no batch done
abbrev pub begun : RunOrder → Change → State → State
begun order rows s = record { books = changed rows s.books; open_run = Some (record { month = order.month; done = 0 }) }

-- a run that is accepted stands at so many batches, or at all where there are fewer
abbrev pub StandsAt : RunOrder → ℕ → Verdict → State → Type 0
StandsAt order count (verdict.Change rows) after =
    after.open_run ≡ advanced_run (whole batch_size after.books) count (Some (record { month = order.month; done = 0 }))
StandsAt order count _ after = Unit {0}

-- so does such a command where so many are named; with none named the open run is the machine's
abbrev pub Stands : State → Option ℕ → Command → State → Type 0
Stands before (Some count) (command.Run order) after = StandsAt order count (verdict_on before.books before.open_run (command.Run order)) after
Stands before (Some count) _ after = Unit {0}
Stands before None told after = after.open_run ≡ (step batch_size (state_of batch_size (as_tables before)) told).0.open_run

module _ (size : ℕ) where
  -- the command was answered so, and left these tables in order
  abbrev pub IsTold : Command → Reply → State → State → Type 0
  IsTold told reply before after = Happens size (Answered told reply) (as_tables before) (as_tables after) × IsInOrder size after.books after.open_run

  -- the command was interrupted and yet carried out, and left these tables in order
  abbrev pub IsCutDone : Command → State → State → Type 0
  IsCutDone told before after = IsDone size told (as_tables before) (as_tables after) × IsInOrder size after.books after.open_run

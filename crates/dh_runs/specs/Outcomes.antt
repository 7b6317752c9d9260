-- What a call told, and what it leaves where it is interrupted.
use Rattle.std.specs.Prelude.{◌≡◌, ◌⊎◌, ℕ}
use Rattle.sqlite.specs.State as sqlite
use Rattle.dh_types.specs.declared.command.Command.{Command}
use Rattle.dh_types.specs.declared.command.RunOrder.{RunOrder}
use Rattle.dh_types.specs.declared.reply.Reply.{Reply}
use Rattle.dh_types.specs.declared.reply.Reply.TheVariants as reply
use Rattle.dh_types.specs.declared.reply.Refusal.TheVariants as refusal
use Rattle.dh_model.specs.declared.rows.Change.{Change}
use Rattle.dh_model.specs.declared.rows.Change.TheVariants as change
use Rattle.dh_model.specs.declared.rows.Verdict.TheVariants as verdict
use Rattle.dh_model.specs.Books.{Books, State}
use Rattle.dh_model.specs.Runs.{batch_size}
use Rattle.dh_model.specs.Verdicts.{opened_run, run_verdict}
use Rattle.dh_laws.specs.Batches.{IsAtItsEnd, IsPostedInPart, closed_state, next_batch}
use Rattle.dh_laws.specs.Events.{Interrupted, Happens, Recovered, Answered, RecoveryInterrupted}
use Rattle.dh_laws.specs.StateTables.{as_tables}
use Rattle.dh_laws.specs.Telling.{begun}
use Rattle.dh_schema.specs.Store.{Leaves}
use Rattle.dh_runs.specs.declared.batches.RunState.{RunState}
use Rattle.dh_runs.specs.declared.batches.RunState.TheVariants as run

-- what posting batches comes to, in a reply's words
abbrev pub reply_of : RunState → Reply
reply_of run.NoRun = reply.Refused refusal.NoRun
reply_of (run.Part progress) = reply.Progress progress
reply_of (run.Posted sum) = reply.Posted sum

-- no batch is left
abbrev pub IsAtEnd : RunState → Type 0
IsAtEnd run.NoRun = Unit {0}
IsAtEnd (run.Part progress) = ⊥
IsAtEnd (run.Posted sum) = Unit {0}

-- the command was answered so
abbrev pub IsAnsweredBy : Command → Reply → State → State → Type 0
IsAnsweredBy told reply before after = Happens batch_size (Answered told reply) (as_tables before) (as_tables after)

-- a fault or a stop came within the command
abbrev pub IsInterrupted : Command → State → State → Type 0
IsInterrupted told before after = Happens batch_size (Interrupted told) (as_tables before) (as_tables after)

-- a recovery was stopped, or answered a fault
abbrev pub IsMidRecovery : State → State → Type 0
IsMidRecovery before after = Happens batch_size RecoveryInterrupted (as_tables before) (as_tables after)

-- a recovery was finished
abbrev pub IsRecovered : State → State → Type 0
IsRecovered before after = Happens batch_size Recovered (as_tables before) (as_tables after)

-- the verdict on some opening is this change
abbrev pub IsOpeningOf : Books → Change → Type 0
IsOpeningOf books rows = (order : RunOrder) × (run_verdict books order ≡ verdict.Change rows)

-- Whatever a crash leaves as the call returns is the run at one batch, at the next one, or closed where none was left: no transaction has
-- two batches.
pub record LeavesOneBatch (most : ℕ) (before : State) (s : sqlite.State) : Type 0 where
  pub at : State
  pub reached : IsPostedInPart most before at
  pub left : Leaves s (λ t. (t ≡ at) ⊎ ((t ≡ next_batch at) ⊎ (IsAtItsEnd at.books at.open_run × (t ≡ closed_state at))))

-- Whatever a crash leaves as a `run` returns is the tables before, or those of its opening; or some batches on from these, it is as above.
abbrev pub LeavesOneStep : RunOrder → State → sqlite.State → Type 0
LeavesOneStep order before s =
    let opened = begun order (change.Open (opened_run before.books order)) before in
    Leaves s (λ t. (t ≡ before) ⊎ (t ≡ opened)) ⊎ ((most : ℕ) × LeavesOneBatch most opened s)

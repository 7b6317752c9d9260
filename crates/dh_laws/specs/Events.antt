-- What can happen to an agency's tables: a command is answered or interrupted, files are taken, a recovery is finished or interrupted.
use Rattle.std.specs.Prelude.{◌≡◌, ◌≤◌, ℕ, ◌+◌, ◌⊎◌, List, [], ◌∷◌, Option, Some, None}
use Rattle.dh_types.specs.declared.command.Command.{Command}
use Rattle.dh_types.specs.declared.command.Command.TheVariants as command
use Rattle.dh_types.specs.declared.reply.Reply.{Reply}
use Rattle.dh_model.specs.declared.open_run.OpenRun.{OpenRun}
use Rattle.dh_model.specs.declared.rows.Change.TheVariants as change
use Rattle.dh_model.specs.declared.rows.Verdict.{Verdict}
use Rattle.dh_model.specs.declared.rows.Verdict.TheVariants as verdict
use Rattle.dh_model.specs.Books.{Books, State}
use Rattle.dh_model.specs.Runs.{batches}
use Rattle.dh_model.specs.Verdicts.{verdict_on}
use Rattle.dh_model.specs.Machine.{step}
use Rattle.dh_model.specs.Whole.{IsOpenAt, whole}

-- the tables, and the open run that they show
pub record Tables : Type 0 where
  pub books : Books
  pub run : Option OpenRun

pub data Event : Type 0 where
  -- the command was answered without a fault
  Answered : Command → Reply → Event
  -- a fault or a stop came within the command
  Interrupted : Command → Event
  -- the files were taken as they are
  Attached : Event
  -- a fault or a stop came within a recovery
  RecoveryInterrupted : Event
  -- a recovery was finished
  Recovered : Event

module _ (size : ℕ) where
  -- the run is the one that the tables show as open, or they show none
  abbrev pub IsShown : Tables → Type 0
  IsShown t = IsOpenAt size t.books t.run

  -- where the machine stands with these tables: the whole books, and the open run
  abbrev pub state_of : Tables → State
  state_of t = record { books = whole size t.books; open_run = t.run }

  -- more batches of the run are done, or all and it is closed
  abbrev pub IsFurther : Books → OpenRun → Option OpenRun → Type 0
  IsFurther books run None = Unit {0}
  IsFurther books run (Some after) = (after.month ≡ run.month) × (run.done ≤ after.done) × (after.done ≤ batches size books run.month)

  abbrev pub IsMovedOn : Books → Option OpenRun → Option OpenRun → Type 0
  IsMovedOn books before after = (after ≡ before) ⊎ ((run : OpenRun) × (before ≡ Some run) × IsFurther books run after)

  -- so many batches at most, and closed only where these were the rest
  abbrev pub IsFurtherBy : Books → ℕ → OpenRun → Option OpenRun → Type 0
  IsFurtherBy books count run None = batches size books run.month ≤ run.done + count
  IsFurtherBy books count run (Some after) = IsFurther books run (Some after) × (after.done ≤ run.done + count)

  abbrev pub IsMovedBy : Books → ℕ → Option OpenRun → Option OpenRun → Type 0
  IsMovedBy books count before after = (after ≡ before) ⊎ ((run : OpenRun) × (before ≡ Some run) × IsFurtherBy books count run after)

  -- the open run where a command was interrupted that changed no books: as it was, but that batches may have been posted
  abbrev pub RunIfUndone : Books → Command → Option OpenRun → Option OpenRun → Type 0
  RunIfUndone books (command.Post count) before after = IsMovedBy books count before after
  RunIfUndone books _ before after = after ≡ before

  -- some number of batches of the month is done, or the run is closed
  abbrev pub IsOfMonth : Books → ℕ → Option OpenRun → Type 0
  IsOfMonth books month None = Unit {0}
  IsOfMonth books month (Some run) = (run.month ≡ month) × (run.done ≤ batches size books month)

  -- the open run where a command was interrupted that was carried out: the machine's, but an accepted run may stand at any batch
  abbrev pub RunIfDone : State → Command → Verdict → Option OpenRun → Type 0
  RunIfDone s (command.Run order) (verdict.Change (change.Open row)) after = IsOfMonth s.books row.month after
  RunIfDone s told _ after = after ≡ (step size s told).0.open_run

  pub record IsUndone (told : Command) (before after : Tables) : Type 0 where
    pub books : whole size after.books ≡ whole size before.books
    pub run : RunIfUndone (whole size before.books) told before.run after.run

  pub record IsDone (told : Command) (before after : Tables) : Type 0 where
    pub books : whole size after.books ≡ (step size (state_of before) told).0.books
    pub run : RunIfDone (state_of before) told (verdict_on (whole size before.books) before.run told) after.run

  pub record IsMidRecovery (before after : Tables) : Type 0 where
    pub books : whole size after.books ≡ whole size before.books
    pub run : IsMovedOn (whole size before.books) before.run after.run

  -- what the event makes of the tables
  abbrev pub Happens : Event → Tables → Tables → Type 0
  Happens (Answered told reply) before after = step size (state_of before) told ≡ (state_of after, reply)
  Happens (Interrupted told) before after = IsUndone told before after ⊎ IsDone told before after
  Happens Attached before after = after ≡ before
  Happens RecoveryInterrupted before after = IsMidRecovery before after
  Happens Recovered before after = after ≡ record { books = whole size before.books; run = None }

  -- one event after the other, each with the tables that it left
  abbrev pub Follow : Tables → List (Event × Tables) → Type 0
  Follow before [] = Unit {0}
  Follow before (event ∷ events) = IsShown event.1 × Happens event.0 before event.1 × Follow event.1 events

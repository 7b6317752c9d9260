-- What was called on an agency's tables, and what came of it, as the contracts of the calls say it.
use Rattle.std.specs.Prelude.{◌≡◌, ℕ, IsTrue}
use Rattle.sqlite.specs.State.{State, HasCleanDisk}
use Rattle.dh_types.specs.declared.command.Command.{Command}
use Rattle.dh_types.specs.declared.command.Command.TheVariants as command
use Rattle.dh_types.specs.declared.reply.Reply.{Reply}
use Rattle.dh_model.specs.Books as machine
use Rattle.dh_laws.specs.Batches.{IsPostedInPart}
use Rattle.dh_schema.specs.Store.{IsReadyWith, Leaves, LeavesItsTables, tables}
use Rattle.dh_schema.specs.Tables.{IsSound}
use Rattle.dh_runs.specs.declared.batches.RunState.{RunState}
use Rattle.dh_runs.specs.Outcomes.{IsInterrupted, IsRecovered, IsAnsweredBy, reply_of}
use Rattle.dh_agency.specs.Taken.{RestsMidRecovery, TakesAsTheyAre, TakesForward}

-- A call, and how it ended. It was interrupted where a stop or a fault came within it.
pub data Call : Type 0 where
  -- a command was stepped, and got this reply
  Stepped : Command → Reply → Call
  StepInterrupted : Command → Call
  -- the open run was resumed for so many batches at most, and is there now
  Resumed : ℕ → RunState → Call
  ResumeInterrupted : ℕ → Call
  -- a question was answered
  Shown : Call
  ShowInterrupted : Call
  -- the tables were attached as they are, or were not
  Attached : Call
  AttachInterrupted : Call
  -- the tables were recovered, or the recovery was interrupted
  Recovered : Call
  RecoveryInterrupted : Call

-- From the connection as the call begins to the connection as it ends. Where a stop came within it, it ends in the run whose disk fails
-- from the stop on.
module _ (old new : State) where
  -- The call was answered: this holds of the tables before and after, and a crash now leaves the latter and nothing else.
  pub record Answers (P : machine.State → machine.State → Type 0) : Type 0 where
    pub said : HasCleanDisk new → P (tables old) (tables new)
    pub left : HasCleanDisk new → LeavesItsTables new

  -- The call was interrupted: whatever a crash now leaves are sound tables of which this holds, and so are those that are read, while the
  -- store is open; and then no transaction is.
  pub record Breaks (P : machine.State → machine.State → Type 0) : Type 0 where
    pub crash : HasCleanDisk new → Leaves new (P (tables old))
    pub halted : HasCleanDisk new → IsTrue new.is_open → IsReadyWith new (P (tables old))

  -- A recovery was interrupted: what a crash now leaves, and what is read while the store is open, is moved on, where the tables were sound;
  -- else they are as they were.
  pub record BreaksRecovery : Type 0 where
    pub forward : TakesForward old new
    pub halted : HasCleanDisk new → IsTrue new.is_open → IsSound old.now.trees → RestsMidRecovery old new

abbrev pub IsSame : machine.State → machine.State → Type 0
IsSame before after = after ≡ before

-- what the contract of the call says of the connection before and after it
abbrev pub Tells : Call → State → State → Type 0
Tells (Stepped told reply) old new = Answers old new (IsAnsweredBy told reply)
Tells (StepInterrupted told) old new = Breaks old new (IsInterrupted told)
Tells (Resumed most it) old new = Answers old new (IsAnsweredBy (command.Post most) (reply_of it))
Tells (ResumeInterrupted most) old new = Breaks old new (IsPostedInPart most)
Tells Shown old new = Answers old new IsSame
Tells ShowInterrupted old new = Breaks old new IsSame
Tells Attached old new = Answers old new IsSame
Tells AttachInterrupted old new = TakesAsTheyAre old new
Tells Recovered old new = Answers old new IsRecovered
Tells RecoveryInterrupted old new = BreaksRecovery old new

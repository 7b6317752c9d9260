-- What comes of the words behind the program's name.
use Rattle.std.specs.Prelude.{◌≡◌, ◌⊎◌, ℕ, List, [], ◌++◌, Option, Some, None, Result, codes}
use Rattle.std.specs.Str.Pattern.{FindsCharSuffix, IsTrimEndMatches}
use Rattle.sqlite_disk.specs.declared.Disk as disk
use Rattle.sqlite_wal.specs.Recovery.{Image}
use Rattle.clap.specs.Values.{kind_of}
use Rattle.clap.specs.declared.error.Error.{Error}
use Rattle.clap.specs.declared.error.kind.ErrorKind.{ErrorKind}
use Rattle.clap.specs.declared.error.kind.ErrorKind.TheVariants.{DisplayHelp, DisplayVersion}
use Rattle.dh_types.specs.declared.output.Output.{Output}
use Rattle.dh_types.specs.declared.reply.Fault.TheVariants as fault
use Rattle.dh_arguments.specs.declared.jobs.BadWords.{BadWords}
use Rattle.dh_arguments.specs.declared.jobs.BadWords.TheVariants as bad
use Rattle.dh_arguments.specs.declared.jobs.Job.{Job}
use Rattle.dh_arguments.specs.declared.jobs.Job.TheVariants.{Init, Batch, Run, Recover, Migrate, Report, Serve}
use Rattle.dh_arguments.specs.Jobs.{IsBadFor, IsJobOf}
use Rattle.dh_types.specs.declared.request.Request.TheVariants.{Question}
use Rattle.dh_reports.specs.Columns.{newline}
use Rattle.dh_http.specs.Patience.{standard_patience}
use Rattle.dh_jobs.specs.declared.jobs.Work.TheVariants as work
use Rattle.dh_jobs.specs.declared.store_jobs.FileJob.TheVariants as job
use Rattle.dh_jobs.specs.declared.status.Failure.TheVariants as failure
use Rattle.dh_jobs.specs.declared.status.Status.{Status}
use Rattle.dh_jobs.specs.declared.status.Status.TheVariants as status
use Rattle.dh_jobs.specs.Jobs.{run_work}
use Rattle.dh_jobs.specs.Texts.{fault_line, refusal_line}
use Rattle.dh_jobs.specs.Printed.{EndsByFault, IsOfLines, PutsBad, PutsEnding, status_if_written}
use Rattle.dh_jobs.specs.Ends.{MemoryLinesEnd}
use Rattle.dh_jobs.specs.OnFile.{DoneOnFile, MadeOnFile}

-- the text without the line feeds at its end, and then one
abbrev pub IsLineOf : List ℕ → List ℕ → Type 0
IsLineOf text line = (trimmed : List ℕ) × IsTrimEndMatches (FindsCharSuffix 10) text trimmed × (line ≡ trimmed ++ newline)

-- How the program ends where a message was written so: help is all that was asked for, or the words are bad.
abbrev pub said_status : ErrorKind → Result (Unit {0}) Output → Status
said_status DisplayHelp outcome = status_if_written outcome status.Done
said_status DisplayVersion outcome = status_if_written outcome status.Done
said_status _ outcome = status.BadWords outcome

-- the same where there was no memory for the message, and the line of that fault was written so
abbrev pub unsaid_status : ErrorKind → Result (Unit {0}) Output → Status
unsaid_status DisplayHelp outcome = status.Failed (failure.Fault fault.Memory outcome)
unsaid_status DisplayVersion outcome = status.Failed (failure.Fault fault.Memory outcome)
unsaid_status _ outcome = status.BadWords outcome

-- This message was printed, with one line feed at its end.
abbrev pub SaysMessage : ErrorKind → List ℕ → Option (List ℕ) → Option (List ℕ) → Status → Type 0
SaysMessage kind text a b it = (line : List ℕ) × IsLineOf text line × PutsEnding (said_status kind) line a b it

-- There was no memory for the message, and that was told.
abbrev pub SaysNoMessage : ErrorKind → Option (List ℕ) → Option (List ℕ) → Status → Type 0
SaysNoMessage kind a b it = PutsEnding (unsaid_status kind) (fault_line fault.Memory) a b it

-- What `clap` says of the words was printed. Which text that is, only `clap` knows.
abbrev pub MessagePrints : Error → Option (List ℕ) → Option (List ℕ) → Status → Type 0
MessagePrints error a b it = ((text : List ℕ) × SaysMessage (kind_of error) text a b it) ⊎ SaysNoMessage (kind_of error) a b it

-- the option whose value is bad
abbrev pub value_line : List ℕ → List ℕ
value_line option = codes "bad " ++ option ++ newline

abbrev pub BadPrints : BadWords → Option (List ℕ) → Option (List ℕ) → Status → Type 0
BadPrints (bad.Refused error) a b it = MessagePrints error a b it
BadPrints (bad.Value option) a b it = PutsBad (value_line option.now) a b it
BadPrints (bad.Question refusal) a b it = PutsBad (refusal_line refusal) a b it
BadPrints bad.Memory a b it = EndsByFault fault.Memory a b [] it

-- on a disk of these ghosts, whose files held this as they were opened
module _ {D : Type 0} (g : disk.Ghosts D) (held : Image) where
  -- lines are answered on a file, or in memory where none is named
  abbrev pub BatchEnds : {T : Type 0} → Option T → ℕ → Option (List ℕ) → Option (List ℕ) → Option (List ℕ) → Status → Type 0
  BatchEnds None first input a b it = IsOfLines it × MemoryLinesEnd a b first input it
  BatchEnds (Some file) first input a b it = DoneOnFile g held (job.Work work.Lines) input a b it

  abbrev pub AskedEnds : Job → Option (List ℕ) → Option (List ℕ) → Option (List ℕ) → Status → Type 0
  AskedEnds (Init file first) input a b it = MadeOnFile g held first a b it
  AskedEnds (Batch file first) input a b it = BatchEnds file first input a b it
  AskedEnds (Run file order batches) input a b it = DoneOnFile g held (job.Work (run_work order batches)) input a b it
  AskedEnds (Recover file) input a b it = DoneOnFile g held job.Recover input a b it
  AskedEnds (Migrate file) input a b it = DoneOnFile g held job.Migrate input a b it
  AskedEnds (Report file question) input a b it = DoneOnFile g held (job.Work (work.Ask (Question question) None)) input a b it
  AskedEnds (Serve file port count) input a b it =
      DoneOnFile g held (job.Serve (record { port = port; count = count; patience = standard_patience })) input a b it

  -- The words ask for a job, and it was done; or they ask for none, and that was said.
  abbrev pub DeskEnds : List (List ℕ) → Option (List ℕ) → Option (List ℕ) → Option (List ℕ) → Status → Type 0
  DeskEnds words input a b it =
      ((asked : Job) × IsJobOf words asked × AskedEnds asked input a b it) ⊎ ((why : BadWords) × IsBadFor words why × BadPrints why a b it)

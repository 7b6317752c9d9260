-- What was printed, and the status, whatever became of the tables.
use Rattle.std.specs.Prelude.{◌≡◌, ◌≢◌, ◌⊎◌, ℕ, Bool, List, [], ◌++◌, Option, Result, Ok, Err}
use Rattle.std.specs.Io.KnownBytes.{Appends}
use Rattle.dh_types.specs.declared.reply.Refusal.{Refusal}
use Rattle.dh_types.specs.declared.reply.Fault.{Fault}
use Rattle.dh_types.specs.declared.output.Output.{Output}
use Rattle.dh_types.specs.Output.{BreaksOff, Puts}
use Rattle.dh_agency.specs.Faults.{IsFirstFault}
use Rattle.dh_agency.specs.Problem.{Problem}
use Rattle.dh_agency.specs.Problem.TheVariants as problem
use Rattle.dh_agency.specs.Taking.{IsOfTables}
use Rattle.dh_agency.specs.Moved.{IsMigrationProblem}
use Rattle.dh_agency.specs.Requests.{Said, is_question, is_report, says_no}
use Rattle.dh_lines.specs.Batch.{PutsBehind}
use Rattle.dh_http.specs.declared.listener.Service.{Service}
use Rattle.dh_http.specs.declared.listener.Unserved.{Unserved}
use Rattle.dh_http.specs.declared.listener.Unserved.TheVariants as unserved
use Rattle.dh_http.specs.Printed.{AreAll, AreFewer, IsPortText, PrintsServed, outcome_lines}
use Rattle.dh_jobs.specs.declared.jobs.Work.{Work}
use Rattle.dh_jobs.specs.declared.jobs.Work.TheVariants as work
use Rattle.dh_jobs.specs.declared.store_jobs.FileJob.{FileJob}
use Rattle.dh_jobs.specs.declared.store_jobs.FileJob.TheVariants as job
use Rattle.dh_jobs.specs.declared.status.Failure.TheVariants as failure
use Rattle.dh_jobs.specs.declared.status.Status.{Status}
use Rattle.dh_jobs.specs.declared.status.Status.TheVariants.{Done, BadWords, Failed, FileRefused}
use Rattle.dh_jobs.specs.Statuses.{IsBad, IsEnding, IsFailed}
use Rattle.dh_jobs.specs.Texts.{created_line, fault_line, migrated_line, no_listener_line, recovered_line, refusal_line, said_lines}

-- the output failed in a text
abbrev pub breaking : Output → Status
breaking output = Failed (failure.Output output)

-- the status of a text that was written so
abbrev pub status_if_written : {T : Type 0} → Result T Output → Status → Status
status_if_written (Ok it) wanted = wanted
status_if_written (Err output) wanted = breaking output

-- the output failed in the text, of which a beginning was printed
abbrev pub BreaksIn : List ℕ → Option (List ℕ) → Option (List ℕ) → Status → Type 0
BreaksIn text a b status = (output : Output) × (status ≡ breaking output) × BreaksOff a b text

-- the text was printed, and the status is the one wanted; or the output failed in it
abbrev pub PutsAs : List ℕ → Status → Option (List ℕ) → Option (List ℕ) → Status → Type 0
PutsAs text wanted a b status = ((status ≡ wanted) × Appends a b text) ⊎ BreaksIn text a b status

-- The text was printed as the outcome says, and the status is the one for that.
abbrev pub PutsEnding : (Result (Unit {0}) Output → Status) → List ℕ → Option (List ℕ) → Option (List ℕ) → Status → Type 0
PutsEnding ending_by text a b status = (outcome : Result (Unit {0}) Output) × (status ≡ ending_by outcome) × Puts a b outcome text

-- so the words are bad
abbrev pub PutsBad : List ℕ → Option (List ℕ) → Option (List ℕ) → Status → Type 0
PutsBad text a b status = PutsEnding BadWords text a b status

-- Behind this text this fault was told, as the outcome in the status says: its whole line, or a beginning of it.
pub record EndsByFault (fault : Fault) (a b : Option (List ℕ)) (text : List ℕ) (status : Status) : Type 0 where
  pub outcome : Result (Unit {0}) Output
  pub failed : status ≡ Failed (failure.Fault fault outcome)
  pub written : PutsBehind a b text outcome (fault_line fault)

-- Behind this text a fault was told.
pub record EndsBySomeFault (a b : Option (List ℕ)) (text : List ℕ) (status : Status) : Type 0 where
  pub fault : Fault
  pub first : IsFirstFault fault
  pub told : EndsByFault fault a b text status

-- Why tables are not taken is told: the file is refused, or a fault came.
abbrev pub EndsByProblem : Problem → Option (List ℕ) → Option (List ℕ) → Status → Type 0
EndsByProblem (problem.Refused why) a b status = PutsAs (refusal_line why) FileRefused a b status
EndsByProblem (problem.Fault fault) a b status = EndsByFault fault a b [] status

-- A text with which the job may end was printed whole, with its status; or the job failed, within that text, behind it, or before it.
pub data Prints (IsEnd : List ℕ → Status → Type 0) (a b : Option (List ℕ)) (status : Status) : Type 0 where
  Whole : (text : List ℕ) → IsEnd text status → Appends a b text → Prints IsEnd a b status
  Within : (text : List ℕ) (last : Status) → IsEnd text last → BreaksIn text a b status → Prints IsEnd a b status
  Behind : (text : List ℕ) (last : Status) → IsEnd text last → EndsBySomeFault a b text status → Prints IsEnd a b status
  Before : EndsBySomeFault a b [] status → Prints IsEnd a b status

-- ---- the ends of jobs

-- what was said was printed: a report, or a reply
abbrev pub IsAskEnd : Bool → List ℕ → Status → Type 0
IsAskEnd reports text status = (it : Said) × (is_report it ≡ reports) × (text ≡ said_lines it) × IsEnding (says_no it) status

abbrev pub IsMakingEnd : ℕ → List ℕ → Status → Type 0
IsMakingEnd first text status = (text ≡ created_line first) × (status ≡ Done)

abbrev pub IsRecoveryEnd : List ℕ → Status → Type 0
IsRecoveryEnd text status = (text ≡ recovered_line) × (status ≡ Done)

abbrev pub IsMigrationEnd : List ℕ → Status → Type 0
IsMigrationEnd text status = (text ≡ migrated_line) × (status ≡ Done)

-- the tables were refused
abbrev pub IsRefusedEnd : List ℕ → Status → Type 0
IsRefusedEnd text status = (why : Refusal) × IsOfTables why × (text ≡ refusal_line why) × (status ≡ FileRefused)

-- they were not migrated: refusal 10, 16 or 17
abbrev pub IsNotMigratedEnd : List ℕ → Status → Type 0
IsNotMigratedEnd text status = (why : Refusal) × IsMigrationProblem (problem.Refused why) × (text ≡ refusal_line why) × (status ≡ FileRefused)

-- Of lines that are answered nothing is known where the reader isn't, but that the words were good and the file was taken.
abbrev pub IsOfLines : Status → Type 0
IsOfLines status = (¬ IsBad status) × (status ≢ FileRefused)

abbrev pub PrintsWork : Work → Option (List ℕ) → Option (List ℕ) → Status → Type 0
PrintsWork work.Lines a b status = IsOfLines status
PrintsWork (work.Ask request batches) a b status = Prints (IsAskEnd (is_question (Ok request))) a b status

-- that there is no listener is told, as the outcome in the status says
abbrev pub EndsWithoutListener : Option (List ℕ) → Option (List ℕ) → Status → Type 0
EndsWithoutListener a b status = (outcome : Result (Unit {0}) Output) × (status ≡ Failed (failure.NoListener outcome)) × Puts a b outcome no_listener_line

-- Serving was finished, whatever was refused; or it was not, and a want of a listener, and a fault of it, are told.
abbrev pub EndsServing : Result (Unit {0}) Unserved → Option (List ℕ) → Option (List ℕ) → Status → Type 0
EndsServing (Ok done) a b status = (b ≡ a) × (status ≡ Done)
EndsServing (Err unserved.NoListener) a b status = EndsWithoutListener a b status
EndsServing (Err (unserved.Output output)) a b status = (b ≡ a) × (status ≡ breaking output)
EndsServing (Err unserved.Stopped) a b status = (b ≡ a) × (status ≡ Failed failure.Stopped)
EndsServing (Err (unserved.Fault fault)) a b status = EndsByFault fault a b [] status

-- behind the lines of fewer connections than were to be served this fault was told, for which no further one could be taken
pub record EndsUnaccepted (service : Service) (outcomes : List (Option ℕ)) (fault : Fault) (a b : Option (List ℕ)) (status : Status) : Type 0 where
  pub text : List ℕ
  pub port : IsPortText service.port text
  pub fewer : AreFewer service.count outcomes
  pub first : IsFirstFault fault
  pub told : EndsByFault fault a b (text ++ outcome_lines outcomes) status

-- the same, with the lines of the connections
abbrev pub PrintsEnd : Service → List (Option ℕ) → Option (List ℕ) → Option (List ℕ) → Result (Unit {0}) Unserved → Status → Type 0
PrintsEnd service outcomes a b (Ok done) status = PrintsServed service outcomes a b (Ok done) × (status ≡ Done)
PrintsEnd service outcomes a b (Err unserved.NoListener) status = (outcomes ≡ []) × EndsWithoutListener a b status
PrintsEnd service outcomes a b (Err (unserved.Output output)) status =
    PrintsServed service outcomes a b (Err (unserved.Output output)) × (status ≡ breaking output)
PrintsEnd service outcomes a b (Err unserved.Stopped) status = PrintsServed service outcomes a b (Err unserved.Stopped) × (status ≡ Failed failure.Stopped)
PrintsEnd service outcomes a b (Err (unserved.Fault fault)) status = EndsUnaccepted service outcomes fault a b status

-- Connections were served, and these outcomes told; or all were, and a fault was told behind them, as the store was closed.
pub data PrintsService (service : Service) (outcomes : List (Option ℕ)) (a b : Option (List ℕ)) (status : Status) : Type 0 where
  Served : (result : Result (Unit {0}) Unserved) → PrintsEnd service outcomes a b result status → PrintsService service outcomes a b status
  Unclosed : (text : List ℕ) → IsPortText service.port text → AreAll service.count outcomes → EndsBySomeFault a b (text ++ outcome_lines outcomes) status
      → PrintsService service outcomes a b status

-- the same of a job on a file, which may be refused
abbrev pub PrintsJob : FileJob → Option (List ℕ) → Option (List ℕ) → Status → Type 0
PrintsJob job.Recover a b status = Prints IsRecoveryEnd a b status ⊎ Prints IsRefusedEnd a b status
PrintsJob job.Migrate a b status = Prints IsMigrationEnd a b status ⊎ Prints IsNotMigratedEnd a b status
PrintsJob (job.Work it) a b status = PrintsWork it a b status ⊎ Prints IsRefusedEnd a b status
PrintsJob (job.Serve service) a b status =
    ((outcomes : List (Option ℕ)) × PrintsService service outcomes a b status) ⊎ Prints IsRefusedEnd a b status

-- A store was closed after this status: it stays, and nothing is printed; or that failed, where nothing had failed before, and is told.
abbrev pub Closes : Option (List ℕ) → Option (List ℕ) → Status → Status → Type 0
Closes a b before after = ((after ≡ before) × (b ≡ a)) ⊎ ((¬ IsFailed before) × EndsBySomeFault a b [] after)

-- How jobs end: what was printed, the status, and where the tables stand.
use Rattle.std.specs.Prelude.{◌≡◌, ◌⊎◌, ℕ, ◌+◌, ◌<◌, ◌≤◌, List, [], ◌++◌, length, take, slice_get, Option, Some, IfSome}
use Rattle.std.specs.Prelude.{Bool, true, false, IsTrue, Result, ⊤}
use Rattle.std.specs.Io.KnownBytes.{Appends}
use Rattle.sqlite.specs.State as conn
use Rattle.sqlite.specs.State.{HasCleanDisk}
use Rattle.sqlite.specs.Held.{Held, state}
use Rattle.sqlite.specs.Steps.{over_memory}
use Rattle.sqlite_trees.specs.Tree.{Trees}
use Rattle.sqlite_trees.specs.declared.memory.MemStore.{MemStore}
use Rattle.dh_types.specs.declared.reply.Refusal.{Refusal}
use Rattle.dh_types.specs.declared.reply.Refusal.TheVariants as refusal
use Rattle.dh_types.specs.declared.reply.Fault.{Fault}
use Rattle.dh_types.specs.declared.reply.Fault.TheVariants as fault
use Rattle.dh_types.specs.declared.version.Version.TheVariants.{First, Second}
use Rattle.dh_types.specs.declared.output.Output.{Output}
use Rattle.dh_model.specs.Books.{State, start}
use Rattle.dh_agency.specs.Faults.{IsFirstFault}
use Rattle.dh_agency.specs.Store as store
use Rattle.dh_agency.specs.Problem.{Problem}
use Rattle.dh_agency.specs.Problem.TheVariants as problem
use Rattle.dh_agency.specs.Taking.{BreaksRule, CanBeTaken, IsProblemOf, IsRefusedFor}
use Rattle.dh_agency.specs.Outcomes.{IsRecovered}
use Rattle.dh_agency.specs.Migrated.{migrated_state}
use Rattle.dh_agency.specs.Moved.{CanBeMigrated, IsNotMigrated, StaysAsItWas}
use Rattle.dh_agency.specs.Taken.{TakesAsTheyAre, TakesForward}
use Rattle.dh_agency.specs.Agency.{stand_of}
use Rattle.dh_types.specs.declared.request.Request.{Request}
use Rattle.dh_fields.specs.Lines.{Fields}
use Rattle.dh_lines.specs.declared.outcome.BatchFault.{BatchFault}
use Rattle.dh_lines.specs.declared.outcome.BatchFault.TheVariants as ended
use Rattle.dh_lines.specs.declared.records.Unread.{Unread}
use Rattle.dh_lines.specs.declared.watched_reader.Input.{Input}
use Rattle.dh_lines.specs.Session as session
use Rattle.dh_lines.specs.Session.{Answered, line, lines_from, records_of, state_after}
use Rattle.dh_lines.specs.Batch.{IsFaultAt, IsWithin, PutsBehind}
use Rattle.dh_http.specs.declared.listener.Service.{Service}
use Rattle.dh_http.specs.Service.{AreOutcomes, IsAfterSome}
use Rattle.dh_jobs.specs.declared.jobs.Work.{Work}
use Rattle.dh_jobs.specs.declared.jobs.Work.TheVariants as work
use Rattle.dh_jobs.specs.declared.store_jobs.FileJob.{FileJob}
use Rattle.dh_jobs.specs.declared.store_jobs.FileJob.TheVariants as job
use Rattle.dh_jobs.specs.declared.status.Failure.TheVariants as failure
use Rattle.dh_jobs.specs.declared.status.Status.{Status}
use Rattle.dh_jobs.specs.declared.status.Status.TheVariants.{Done, Failed}
use Rattle.dh_jobs.specs.Statuses.{IsEnding, ending, status_of}
use Rattle.dh_jobs.specs.Texts.{migrated_line, recovered_line}
use Rattle.dh_jobs.specs.Printed.{BreaksIn, EndsByProblem, EndsBySomeFault, PrintsService, PutsAs}
use Rattle.dh_jobs.specs.Jobs.{IsAskCut, answered_so, lines_answered, said_in_parts, stand_in}

-- ---- over tables that were taken

-- The job came to this. Its text was printed, and the status is by what is left; or the writer failed in the text; or a fault came
-- behind it, as the open run was asked for.
pub data Comes (new : conn.State) (a b : Option (List ℕ)) (it : Answered) (status : Status) : Type 0 where
  WasPrinted : Appends a b it.text → stand_in new ≡ it.state → status ≡ status_of it → Comes new a b it status
  Unprinted : BreaksIn it.text a b status → stand_in new ≡ it.state → Comes new a b it status
  Unasked : EndsBySomeFault a b it.text status → (IsTrue new.is_open → stand_in new ≡ it.state) → Comes new a b it status

-- A fault came first, and was told. Of tables that can be read this holds.
pub record Breaks (new : conn.State) (a b : Option (List ℕ)) (P : State → Type 0) (status : Status) : Type 0 where
  pub told : EndsBySomeFault a b [] status
  pub left : IsTrue new.is_open → P (store.tables new)

-- The first records were answered, and then a fault came within the next one, whose line follows as the outcome says. The agency has stopped, at
-- fault 22 always; or it goes on, and nothing of that record was done.
pub record FaultedIn (new : conn.State) (is_stopped : Bool) (a b : Option (List ℕ)) (s : State) (rows : List Fields) (why : Fault) : Type 0 where
  pub count : ℕ
  pub outcome : Result (Unit {0}) Output
  pub few : count ≤ length rows
  pub asked : IsFaultAt why (slice_get rows count)
  pub written : PutsBehind a b (lines_from 1 s (take count rows)) outcome (session.fault_line (count + 1) why)
  pub left : IsTrue new.is_open → IsWithin (state_after s (take count rows)) (slice_get rows count) (store.tables new)
  pub stopped : why ≡ fault.Store → is_stopped ≡ true
  pub undone : is_stopped ≡ false → stand_in new ≡ state_after s (take count rows)

-- The first records were answered, and then no more, for this: by a fault within the next one; by the next one, which was not read, as the line
-- of fault 21 says; by a reader that failed; or by a writer that failed in the next one's line, which was carried out.
pub data Stops (new : conn.State) (is_stopped : Bool) (a b : Option (List ℕ)) (s : State) (rows : List Fields) (why : BatchFault) : Type 0 where
  AtFault : (it : Fault) → why ≡ ended.Agency it → FaultedIn new is_stopped a b s rows it → Stops new is_stopped a b s rows why
  AtUnread : (count : ℕ) (cause : Unread) (outcome : Result (Unit {0}) Output) → why ≡ ended.Unread cause → count ≤ length rows
      → cause.number ≡ count + 1 → PutsBehind a b (lines_from 1 s (take count rows)) outcome (session.fault_line (count + 1) fault.Memory)
      → stand_in new ≡ state_after s (take count rows) → Stops new is_stopped a b s rows why
  AtReading : (count : ℕ) (cause : Input) → why ≡ ended.Input cause → count ≤ length rows → Appends a b (lines_from 1 s (take count rows))
      → stand_in new ≡ state_after s (take count rows) → Stops new is_stopped a b s rows why
  AtWriting : (count : ℕ) (output : Output) (fields : Fields) (cut : ℕ) → why ≡ ended.Output output → slice_get rows count ≡ Some fields
      → cut < length (line (count + 1) (state_after s (take count rows)) fields)
      → Appends a b (lines_from 1 s (take count rows) ++ take cut (line (count + 1) (state_after s (take count rows)) fields))
      → stand_in new ≡ state_after s (take (count + 1) rows) → Stops new is_stopped a b s rows why

-- by an agency that then has stopped, or goes on
abbrev pub LinesEnd : conn.State → Bool → Option (List ℕ) → Option (List ℕ) → State → List ℕ → Status → Type 0
LinesEnd new is_stopped a b s input status =
    Comes new a b (lines_answered s (records_of input)) status
    ⊎ ((why : BatchFault) × Stops new is_stopped a b s (records_of input) why × (status ≡ Failed (failure.Lines why)))

-- Nothing is printed, and the status is by what is left; or a fault came, and was told. The tables are as they were.
abbrev pub Finishes : conn.State → conn.State → Option (List ℕ) → Option (List ℕ) → Bool → Status → Type 0
Finishes old new a b is_refused status =
    ((b ≡ a) × IsEnding is_refused status
    × (HasCleanDisk new → (store.tables new ≡ store.tables old) × (status ≡ ending is_refused (store.tables old).open_run)))
    ⊎ (EndsBySomeFault a b [] status × (HasCleanDisk new → IsTrue new.is_open → store.tables new ≡ store.tables old))

-- a request over these tables
abbrev pub AskEnds : conn.State → Option (List ℕ) → Option (List ℕ) → State → Request → Option ℕ → Status → Type 0
AskEnds new a b t request batches status =
    Comes new a b (answered_so (said_in_parts (stand_of t) request batches)) status ⊎ Breaks new a b (IsAskCut t request batches) status

abbrev pub WorkEnds : conn.State → Bool → Option (List ℕ) → Option (List ℕ) → State → Option (List ℕ) → Work → Status → Type 0
WorkEnds new is_stopped a b t input work.Lines status = IfSome input (λ input. LinesEnd new is_stopped a b (stand_of t) input status)
WorkEnds new is_stopped a b t input (work.Ask request batches) status = AskEnds new a b t request batches status

-- ---- over a store

-- The tables were not taken, for such a cause.
pub record IsNotTaken (IsCause : Problem → Type 0) (a b : Option (List ℕ)) (status : Status) : Type 0 where
  pub problem : Problem
  pub cause : IsCause problem
  pub told : EndsByProblem problem a b status

-- The tables were sound and of the second version, and were worked on; or they were not taken, and are as they were.
abbrev pub TakingEnds : conn.State → conn.State → Option (List ℕ) → Option (List ℕ) → Option (List ℕ) → Work → Status → Type 0
TakingEnds old new a b input it status =
    (CanBeTaken Second old.now.trees × (is_stopped : Bool) × WorkEnds new is_stopped a b (store.tables old) input it status)
    ⊎ (IsNotTaken (IsProblemOf Second old.now.trees) a b status × TakesAsTheyAre old new)

-- The open run of such tables was made to its end; or for such a cause they were not taken, or not to the end, and the open run is moved
-- on at most.
abbrev pub RecoveryEndsFor : (Trees → Type 0) → (Problem → Type 0) → conn.State → conn.State → Option (List ℕ) → Option (List ℕ) → Status → Type 0
RecoveryEndsFor Can IsCause old new a b status =
    (Can old.now.trees × IsRecovered (store.tables old) (store.tables new) × PutsAs recovered_line Done a b status)
    ⊎ (IsNotTaken IsCause a b status × TakesForward old new)

-- sound tables of either version
abbrev pub CanBeRecovered : Trees → Type 0
CanBeRecovered trees = CanBeTaken First trees ⊎ CanBeTaken Second trees

-- so tables are not recovered: they are of neither version, or break a rule of the one that they are of
abbrev pub IsNotRecoveredFor : Trees → Refusal → Type 0
IsNotRecoveredFor trees (refusal.Version found) = IsRefusedFor First trees (refusal.Version found) × IsRefusedFor Second trees (refusal.Version found)
IsNotRecoveredFor trees (refusal.Damaged rule) = BreaksRule First rule trees ⊎ BreaksRule Second rule trees
IsNotRecoveredFor trees _ = ⊥

-- a refusal that holds of the tables, or a fault of which they say nothing
abbrev pub IsNotRecovered : Trees → Problem → Type 0
IsNotRecovered trees (problem.Refused why) = IsNotRecoveredFor trees why
IsNotRecovered trees (problem.Fault fault) = IsFirstFault fault

-- the open run of tables of either version
abbrev pub RecoveryEnds : conn.State → conn.State → Option (List ℕ) → Option (List ℕ) → Status → Type 0
RecoveryEnds old new a b status = RecoveryEndsFor CanBeRecovered (IsNotRecovered old.now.trees) old new a b status

-- The tables were migrated; or they were not, and are as they were.
abbrev pub MigrationEnds : conn.State → conn.State → Option (List ℕ) → Option (List ℕ) → Status → Type 0
MigrationEnds old new a b status =
    (CanBeMigrated old.now.trees × (store.tables new ≡ migrated_state (store.tables old)) × PutsAs migrated_line Done a b status)
    ⊎ (IsNotTaken (IsNotMigrated old.now.trees) a b status × (IsTrue new.is_open → StaysAsItWas old new))

-- Lines are answered from the beginning with this month; or there was no agency, for a fault.
abbrev pub NewLinesEnd : conn.State → Option (List ℕ) → Option (List ℕ) → ℕ → Option (List ℕ) → Status → Type 0
NewLinesEnd new a b first input status =
    ((is_stopped : Bool) × IfSome input (λ input. LinesEnd new is_stopped a b (start first) input status)) ⊎ EndsBySomeFault a b [] status

-- the same in memory, which leaves some tables
abbrev pub MemoryLinesEnd : Option (List ℕ) → Option (List ℕ) → ℕ → Option (List ℕ) → Status → Type 0
MemoryLinesEnd a b first input status =
    ((left : Held MemStore) × NewLinesEnd (state over_memory left) a b first input status) ⊎ EndsBySomeFault a b [] status

-- What the end of serving says of the agency: it has stopped where serving ended for that, and else it goes on. Nothing is said where the output
-- failed.
abbrev pub StandsBy : Status → Bool → Type 0
StandsBy Done is_stopped = is_stopped ≡ false
StandsBy (Failed (failure.Fault why outcome)) is_stopped = is_stopped ≡ false
StandsBy (Failed (failure.NoListener outcome)) is_stopped = is_stopped ≡ false
StandsBy (Failed failure.Stopped) is_stopped = is_stopped ≡ true
StandsBy _ is_stopped = ⊤

-- Connections were served, and the outcomes that were printed are those of the machine's answers; the tables that can be read are the machine's
-- behind some connections. The end says whether the agency goes on, and so does the status of each connection.
pub record IsServed (old new : conn.State) (a b : Option (List ℕ)) (service : Service) (status : Status) : Type 0 where
  pub outcomes : List (Option ℕ)
  pub printed : PrintsService service outcomes a b status
  pub is_stopped : Bool
  pub told : AreOutcomes (stand_of (store.tables old)) outcomes (stand_in new) is_stopped
  pub stands : StandsBy status is_stopped
  pub reads : IsTrue new.is_open → IsAfterSome (stand_of (store.tables old)) (store.tables new)

-- The tables were sound and of the second version, and connections were served; or they were not taken.
abbrev pub ServingEnds : conn.State → conn.State → Option (List ℕ) → Option (List ℕ) → Service → Status → Type 0
ServingEnds old new a b service status =
    (CanBeTaken Second old.now.trees × IsServed old new a b service status)
    ⊎ (IsNotTaken (IsProblemOf Second old.now.trees) a b status × TakesAsTheyAre old new)

abbrev pub JobEnds : conn.State → conn.State → Option (List ℕ) → Option (List ℕ) → Option (List ℕ) → FileJob → Status → Type 0
JobEnds old new a b input job.Recover status = RecoveryEnds old new a b status
JobEnds old new a b input job.Migrate status = MigrationEnds old new a b status
JobEnds old new a b input (job.Work it) status = TakingEnds old new a b input it status
JobEnds old new a b input (job.Serve service) status = ServingEnds old new a b service status

-- What a crash leaves of a job as it ends, wherever it came to.
use Rattle.std.specs.Prelude.{◌⊎◌, ◌≤◌, List, ◌++◌, length}
use Rattle.sqlite.specs.State as conn
use Rattle.sqlite.specs.State.{HasCleanDisk}
use Rattle.dh_model.specs.Books.{State}
use Rattle.dh_agency.specs.Store.{Leaves, LeavesItsTables, tables}
use Rattle.dh_agency.specs.Tables.{IsSound}
use Rattle.dh_agency.specs.Taking.{LeavesAsTheyWere}
use Rattle.dh_agency.specs.Moved.{MovesOn}
use Rattle.dh_agency.specs.Taken.{TakesForward}
use Rattle.dh_agency.specs.Agency.{stand_of}
use Rattle.dh_fields.specs.Lines.{Fields}
use Rattle.dh_lines.specs.Batch.{AreAfter}
use Rattle.dh_http.specs.Service.{IsAfterSome}
use Rattle.dh_jobs.specs.declared.jobs.Work.{Work}
use Rattle.dh_jobs.specs.declared.jobs.Work.TheVariants as work
use Rattle.dh_jobs.specs.declared.store_jobs.FileJob.{FileJob}
use Rattle.dh_jobs.specs.declared.store_jobs.FileJob.TheVariants as job
use Rattle.dh_jobs.specs.declared.status.Status.{Status}
use Rattle.dh_jobs.specs.Jobs.{IsAskCut}
use Rattle.dh_jobs.specs.Statuses.{IsAnswered}

-- What was told is there: where a job was answered, a crash now leaves the tables alone that the store reads.
abbrev pub IsKept : conn.State → Status → Type 0
IsKept s status = HasCleanDisk s → IsAnswered status → LeavesItsTables s

-- Some records, which nothing here ties to the input, were answered, and one more at most was being answered: the whole of the tables is
-- the machine's books after those, or after that one too.
pub record LinesLeave (new : conn.State) (s : State) : Type 0 where
  pub rows : List Fields
  pub within : List Fields
  pub one : length within ≤ 1
  pub left : Leaves new (λ left. AreAfter s rows left ⊎ AreAfter s (rows ++ within) left)

-- work over these tables
abbrev pub WorkLeaves : conn.State → State → Work → Type 0
WorkLeaves new t work.Lines = LinesLeave new (stand_of t)
WorkLeaves new t (work.Ask request batches) = Leaves new (IsAskCut t request batches)

-- The same from sound tables; others stay.
pub record TakingLeaves (old new : conn.State) (it : Work) : Type 0 where
  pub worked : HasCleanDisk new → IsSound old.now.trees → WorkLeaves new (tables old) it
  pub untouched : HasCleanDisk new → ¬ IsSound old.now.trees → LeavesAsTheyWere old new

-- Connections, which nothing here ties to what peers sent, were served over sound tables: the whole of the tables is the machine's books
-- behind some of them. Other tables stay.
pub record ServingLeaves (old new : conn.State) : Type 0 where
  pub served : HasCleanDisk new → IsSound old.now.trees → Leaves new (IsAfterSome (stand_of (tables old)))
  pub untouched : HasCleanDisk new → ¬ IsSound old.now.trees → LeavesAsTheyWere old new

abbrev pub JobLeaves : conn.State → conn.State → FileJob → Type 0
JobLeaves old new job.Recover = TakesForward old new
JobLeaves old new job.Migrate = MovesOn old new
JobLeaves old new (job.Work it) = TakingLeaves old new it
JobLeaves old new (job.Serve service) = ServingLeaves old new

-- What posting a batch is answered.
use Rattle.std.specs.Prelude.{All, ℕ, ◌+◌, ◌^◌, ◌≤◌, nat_lt, if◌then◌else◌, Option, Some, None}
use Rattle.dh_model.specs.declared.open_run.OpenRun.{OpenRun}
use Rattle.dh_model.specs.Books.{Books}
use Rattle.dh_model.specs.Runs.{batch_size, batches}
use Rattle.dh_leases.specs.declared.plans.Plan.{Plan}
use Rattle.dh_leases.specs.Plans.{FallsInTime}
use Rattle.dh_runs.specs.declared.batch.Batch.{Batch}
use Rattle.dh_runs.specs.declared.batch.Batch.TheVariants.{Posted, NoneLeft}

-- so many batches can be counted with those of any list behind them
abbrev pub HasRoom : ℕ → Type 0
HasRoom done = done + 2 ^ 64 ≤ 2 ^ 128

-- its batches can be counted, and their charges kept in the tables
abbrev pub CanBePosted : Plan → Type 0
CanBePosted plan = HasRoom plan.done × All FallsInTime plan.batches.items

-- that one more is done, where one was left
abbrev pub posted_batch : Books → Option OpenRun → Batch
posted_batch books None = NoneLeft
posted_batch books (Some run) =
    let all = batches batch_size books run.month in
    if nat_lt run.done all then Posted (run.done + 1) all else NoneLeft

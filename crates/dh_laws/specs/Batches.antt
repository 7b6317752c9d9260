-- The next batch of an open run, and its end.
use Rattle.dh_types.specs.declared.command.Command.TheVariants as command
use Rattle.std.specs.Prelude.{Bool, true, false, ◌≡◌, ℕ, ◌+◌, nat_lt, if◌then◌else◌, Option, Some, None}
use Rattle.std.specs.FinMap.{get}
use Rattle.dh_types.specs.declared.run.RunSum.{RunSum}
use Rattle.dh_model.specs.declared.rows.Change.{Change}
use Rattle.dh_model.specs.declared.rows.Change.TheVariants as change
use Rattle.dh_model.specs.declared.open_run.OpenRun.{OpenRun}
use Rattle.dh_model.specs.Books.{Books, State}
use Rattle.dh_model.specs.Machine.{posted_sum}
use Rattle.dh_model.specs.Runs.{batch_size, batches}
use Rattle.dh_model.specs.Whole.{whole, with_posted}
use Rattle.dh_laws.specs.Events.{IsUndone}
use Rattle.dh_laws.specs.StateTables.{as_tables}

-- with one batch more
abbrev pub with_batch : Books → OpenRun → State
with_batch books run = record {
  books = with_posted batch_size books run.month (run.done + 1);
  open_run = Some (record { month = run.month; done = run.done + 1 });
}

-- the tables with the next batch, where one is left
abbrev pub next_of : Books → Option OpenRun → State
next_of books None = record { books = books; open_run = None }
next_of books (Some run) = if nat_lt run.done (batches batch_size books run.month) then with_batch books run else record { books = books; open_run = Some run }

abbrev pub next_batch : State → State
next_batch s = next_of s.books s.open_run

-- a run is open
abbrev pub IsUnderWay : Option OpenRun → Type 0
IsUnderWay None = ⊥
IsUnderWay (Some run) = Unit {0}

-- no batch of the open run is left
abbrev pub IsAtItsEnd : Books → Option OpenRun → Type 0
IsAtItsEnd books None = ⊥
IsAtItsEnd books (Some run) = run.done ≡ batches batch_size books run.month

-- the tables with the open run made to its end
abbrev pub closed_state : State → State
closed_state s = record { books = whole batch_size s.books; open_run = None }

-- what the open run comes to
abbrev pub open_run_sum : Books → Option OpenRun → RunSum
open_run_sum books None = record { month = 0; count = 0; total = 0 }
open_run_sum books (Some run) = posted_sum run.month (get (whole batch_size books).runs run.month)

-- a `post` of so many batches was interrupted here: the whole books are the same, and the open run is moved on by so many at most
abbrev pub IsPostedInPart : ℕ → State → State → Type 0
IsPostedInPart most before after = IsUndone batch_size (command.Post most) (as_tables before) (as_tables after)

-- rows of other commands than those of runs
abbrev pub is_plain : Change → Bool
is_plain (change.Open row) = false
is_plain change.Post = false
is_plain _ = true

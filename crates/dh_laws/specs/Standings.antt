-- Where the machine stands tells the tables: it is the standing of these, and of no others.
use Rattle.std.specs.Prelude.{◌≡◌, ℕ, true, false, Option, Some, None}
use Rattle.std.specs.Ordering.{nat_cmp}
use Rattle.std.specs.FinMap.{FinMap, get, insert}
use Rattle.dh_types.specs.declared.command.Command.{Command}
use Rattle.dh_types.specs.declared.reply.Reply.{Reply}
use Rattle.dh_types.specs.declared.run.Run.{Run}
use Rattle.dh_model.specs.declared.open_run.OpenRun.{OpenRun}
use Rattle.dh_model.specs.Books.{Books, State}
use Rattle.dh_model.specs.Whole.{with_posted}
use Rattle.dh_laws.specs.Events.{Happens, Answered, Tables, state_of}
use Rattle.dh_laws.specs.InOrder.{IsInOrder}
use Rattle.dh_laws.specs.Repeating.{is_of_nothing_new}

-- the row of a run that is done, as it was while the run was open
abbrev pub still_open : Run → Run
still_open row = record row { count = 0; total = 0; is_closed = false }

-- the runs with the month's row as it was then
abbrev pub with_open : FinMap nat_cmp Run → ℕ → Option Run → FinMap nat_cmp Run
with_open runs month None = runs
with_open runs month (Some row) = insert runs month (still_open row)

module _ (size : ℕ) where
  -- the books that the open run leads to these from: its month has the batches that are done and an open row, all else is the same
  abbrev pub led_from : Books → Option OpenRun → Books
  led_from books None = books
  led_from books (Some run) =
      let part = with_posted size books run.month run.done in
      record part { runs = with_open books.runs run.month (get books.runs run.month) }

  -- the tables with which the machine stands here
  abbrev pub tables_at : State → Tables
  tables_at s = record { books = led_from s.books s.open_run; run = s.open_run }

  abbrev pub AreWorkedOn : Tables → Type 0
  AreWorkedOn t = IsInOrder size t.books t.run

  -- from where the machine stands the tables are made again, row for row
  abbrev pub StandingMakesTheTables : Type 0
  StandingMakesTheTables = (t : Tables) → AreWorkedOn t → tables_at (state_of size t) ≡ t

  -- so where the whole books and the open run are the same, the tables are
  abbrev pub StandingDeterminesTheTables : Type 0
  StandingDeterminesTheTables = (t other : Tables) → AreWorkedOn t → AreWorkedOn other → state_of size other ≡ state_of size t → other ≡ t

  -- A command that is refused, or that was carried out before, leaves the tables as they were, row for row; while a run is open too.
  abbrev pub NothingNewLeavesTheTables : Type 0
  NothingNewLeavesTheTables = (before after : Tables) (told : Command) (reply : Reply) → AreWorkedOn before → AreWorkedOn after
      → Happens size (Answered told reply) before after → is_of_nothing_new reply ≡ true → after ≡ before

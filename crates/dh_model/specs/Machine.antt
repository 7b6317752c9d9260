-- The machine: what each command does to the books and the open run, and what it is answered.
use Rattle.std.specs.Prelude.{ℕ, ◌+◌, nat_le, if◌then◌else◌, Option, Some, None}
use Rattle.std.specs.FinMap.{get}
use Rattle.dh_types.specs.declared.command.Command.{Command}
use Rattle.dh_types.specs.declared.command.Command.TheVariants as command
use Rattle.dh_types.specs.declared.run.Run.{Run}
use Rattle.dh_types.specs.declared.run.RunSum.{RunSum}
use Rattle.dh_types.specs.declared.reply.Reply.{Reply}
use Rattle.dh_types.specs.declared.reply.Reply.TheVariants as reply
use Rattle.dh_types.specs.declared.reply.Refusal.TheVariants as refusal
use Rattle.dh_model.specs.declared.open_run.OpenRun.{OpenRun}
use Rattle.dh_model.specs.declared.rows.Change.{Change}
use Rattle.dh_model.specs.declared.rows.Change.TheVariants as change
use Rattle.dh_model.specs.declared.rows.Verdict.{Verdict}
use Rattle.dh_model.specs.declared.rows.Verdict.TheVariants as verdict
use Rattle.dh_model.specs.Books.{Books, State}
use Rattle.dh_model.specs.Edits.{edit_of, edited}
use Rattle.dh_model.specs.Runs.{batches, ran, sum_of}
use Rattle.dh_model.specs.Verdicts.{verdict_on}

-- the books with the rows of the change
abbrev pub changed : Change → Books → Books
changed rows = edited (edit_of rows)

-- what an accepted change is answered
abbrev pub accepted : Change → Reply
accepted (change.Receipt it) = reply.Receipt it.number
accepted _ = reply.Accepted

-- what the run of the month comes to
abbrev pub posted_sum : ℕ → Option Run → RunSum
posted_sum month None = record { month = month; count = 0; total = 0 }
posted_sum month (Some run) = sum_of run

module _ (size : ℕ) where
  -- The books are those with the open run made to its end; beside them stands how far it is.
  -- So many batches more: the run is closed where none is left.
  abbrev pub posted : Books → ℕ → OpenRun → State × Reply
  posted books count run =
      let all = batches size books run.month in
      if nat_le all (run.done + count)
      then (record { books = books; open_run = None }, reply.Posted (posted_sum run.month (get books.runs run.month)))
      else (
        record { books = books; open_run = Some (record { month = run.month; done = run.done + count }) },
        reply.Progress (record { month = run.month; done = run.done + count; of = all }),
      )

  abbrev pub resumed : Books → ℕ → Option OpenRun → State × Reply
  resumed books count None = (record { books = books; open_run = None }, reply.Refused refusal.NoRun)
  resumed books count (Some run) = posted books count run

  -- an accepted run is made in one step
  abbrev pub run_made : State → Run → State × Reply
  run_made s row =
      let books = ran size s.books row.key in
      (record { books = books; open_run = None }, reply.Posted (posted_sum row.month (get books.runs row.month)))

  -- an accepted opening makes it too, and no batch is done yet
  abbrev pub run_opened : State → Run → State × Reply
  run_opened s row = (record { books = ran size s.books row.key; open_run = Some (record { month = row.month; done = 0 }) }, reply.Opened row.month)

  abbrev pub carried_out : State → Command → Change → State × Reply
  carried_out s (command.Run order) (change.Open row) = run_made s row
  carried_out s (command.Open order) (change.Open row) = run_opened s row
  carried_out s (command.Post count) change.Post = resumed s.books count s.open_run
  carried_out s _ rows = (record s { books = changed rows s.books }, accepted rows)

  abbrev pub settled : State → Command → Verdict → State × Reply
  settled s told (verdict.Change rows) = carried_out s told rows
  settled s told (verdict.Already kept) = (s, kept)
  settled s told (verdict.Refused why) = (s, reply.Refused why)

  -- one step: the state after the command, and the reply
  abbrev pub step : State → Command → State × Reply
  step s told = settled s told (verdict_on s.books s.open_run told)

-- Batches, one after the other, lead to the same whole books.
use Rattle.std.specs.Prelude.{◌≡◌, ◌≤◌, ◌<◌, ℕ, ◌+◌, Some, None}
use Rattle.std.specs.FinMap.{insert, len}
use Rattle.dh_types.specs.declared.command.RunOrder.{RunOrder}
use Rattle.dh_types.specs.declared.command.Command.TheVariants as command
use Rattle.dh_types.specs.declared.run.Run.{Run}
use Rattle.dh_model.specs.declared.rows.Change.TheVariants as change
use Rattle.dh_model.specs.declared.rows.Verdict.TheVariants as verdict
use Rattle.dh_model.specs.Books.{Books}
use Rattle.dh_model.specs.Runs.{batches, closed_run, ran}
use Rattle.dh_model.specs.Rules.{charges_in}
use Rattle.dh_model.specs.Verdicts.{opened_run, verdict_on}
use Rattle.dh_model.specs.Machine.{changed}
use Rattle.dh_model.specs.Whole.{open_row, whole, with_posted}
use Rattle.dh_laws.specs.InOrder.{IsInOrder}

-- the books with the run's row closed, and with the count and total of the month's charges in it
abbrev pub closed : Books → Run → Books
closed books run = record books { runs = insert books.runs run.month (closed_run run.month run.key (charges_in books run.month)) }

module _ (size : ℕ) where
  -- the next batch leaves books in order, and the whole of them as it was
  abbrev pub NextBatchKeepsTheWhole : Type 0
  NextBatchKeepsTheWhole =
      (books : Books) (month done : ℕ) → 1 ≤ size → IsInOrder size books (Some (record { month = month; done = done })) → done < batches size books month
      → IsInOrder size (with_posted size books month (done + 1)) (Some (record { month = month; done = done + 1 }))
      × (whole size (with_posted size books month (done + 1)) ≡ whole size books)

  -- and it has no more charges than the size
  abbrev pub NextBatchIsSmall : Type 0
  NextBatchIsSmall = (books : Books) (month done : ℕ) → 1 ≤ size → IsInOrder size books (Some (record { month = month; done = done }))
      → len (with_posted size books month (done + 1)).charges ≤ len books.charges + size

  -- where no batch is left, closing makes the books whole
  abbrev pub ClosingMakesWhole : Type 0
  ClosingMakesWhole = (books : Books) (month : ℕ) (run : Run) → 1 ≤ size
      → IsInOrder size books (Some (record { month = month; done = batches size books month }))
      → open_row books ≡ Some run → closed books run ≡ whole size books

  -- a run in one step is its opening made whole
  abbrev pub RunIsOpeningMadeWhole : Type 0
  RunIsOpeningMadeWhole = (books : Books) (order : RunOrder) → 1 ≤ size → IsInOrder size books None
      → verdict_on books None (command.Open order) ≡ verdict.Change (change.Open (opened_run books order))
      → whole size (changed (change.Open (opened_run books order)) books) ≡ ran size books order.key

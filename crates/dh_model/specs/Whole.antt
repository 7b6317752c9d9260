-- Books with an open run, and the books that it leads to.
use Rattle.std.specs.Prelude.{◌≡◌, ℕ, Bool, not, nat_eq, Option, Some, None, option_map}
use Rattle.std.specs.declared.cmp.Ordering.{Ordering}
use Rattle.std.specs.List.{filter, find, sum_by}
use Rattle.std.specs.FinMap.{FinMap, entries, from_entries, insert, values}
use Rattle.dh_types.specs.declared.run.Run.{Run}
use Rattle.dh_model.specs.declared.open_run.OpenRun.{OpenRun}
use Rattle.dh_model.specs.Books.{Books, with_rows}
use Rattle.dh_model.specs.Runs.{batches, batches_for, charge_key, closed_run, part_fee_key, part_key, posted_charges, posted_fees, posted_parts}
use Rattle.dh_model.specs.Rules.{ArePosted, parts_in}

-- the rows of which the test holds
abbrev pub rows_where : {K X : Type 0} {R : K → K → Ordering} → (X → Bool) → FinMap R X → FinMap R X
rows_where test rows = from_entries (filter (λ entry. test entry.1) (entries rows))

-- the run that is open
abbrev pub open_row : Books → Option Run
open_row books = find (λ run. not run.is_closed) (values books.runs)

module _ (size : ℕ) where
  -- the run (month, done) is the one that the books show as open, or none is
  abbrev pub IsOpenAt : Books → Option OpenRun → Type 0
  IsOpenAt books None = open_row books ≡ None
  IsOpenAt books (Some at) = (row : Run) × (open_row books ≡ Some row) × (row.month ≡ at.month) × ArePosted books size at.month at.done

  -- the batches that a month's part rows stand for: each those that its charges take
  abbrev pub batches_shown : Books → ℕ → ℕ
  batches_shown books month = sum_by (λ part. batches_for size part.count) (parts_in books month)

  -- the open run as the run row and the part rows show it
  abbrev pub run_shown : Books → Option OpenRun
  run_shown books = option_map (λ row. record { month = row.month; done = batches_shown books row.month }) (open_row books)

  -- the books with so many batches of the month in the place of what they have of it
  abbrev pub with_posted : Books → ℕ → ℕ → Books
  with_posted books month done = record books {
    charges = with_rows charge_key (posted_charges size books month done) (rows_where (λ charge. not (nat_eq charge.month month)) books.charges);
    parts = with_rows part_key (posted_parts size books month done) (rows_where (λ part. not (nat_eq part.month month)) books.parts);
    part_fees = with_rows part_fee_key (posted_fees size books month done) (rows_where (λ it. not (nat_eq it.month month)) books.part_fees);
  }

  -- the books with all batches of the run posted, and it closed
  abbrev pub completed : Books → Option Run → Books
  completed books None = books
  completed books (Some run) =
      let all = with_posted books run.month (batches size books run.month) in
      record all { runs = insert books.runs run.month (closed_run run.month run.key (posted_charges size books run.month (batches size books run.month))) }

  -- the books as they are once the open run is done
  abbrev pub whole : Books → Books
  whole books = completed books (open_row books)

-- What a run comes to that is closed.
use Rattle.std.specs.Prelude.{◌≡◌, ◌≤◌, ◌<◌, ◌^◌, ◌⊎◌, ℕ, List, Some, length, true}
use Rattle.std.specs.List.{sum_by}
use Rattle.std.specs.FinMap.{insert}
use Rattle.dh_values.specs.declared.limits.TheConstants.{MOST_PENCE}
use Rattle.dh_types.specs.declared.lease.Charge.{Charge}
use Rattle.dh_types.specs.declared.run.Part.{Part}
use Rattle.dh_types.specs.declared.run.Run.{Run}
use Rattle.dh_types.specs.declared.run.RunSum.{RunSum}
use Rattle.dh_model.specs.Books.{Books}
use Rattle.dh_model.specs.Rules.{charges_in}
use Rattle.dh_model.specs.Runs.{total_of}
use Rattle.dh_model.specs.Whole.{open_row}

-- how many the charges of a month are, and the sum of their amounts
abbrev pub sum_over : ℕ → List Charge → RunSum
sum_over month charges = record { month = month; count = length charges; total = total_of charges }

-- the sums of the counts and the totals of part rows, which are those of the charges that they stand for
abbrev pub sum_of_parts : ℕ → List Part → RunSum
sum_of_parts month parts = record { month = month; count = sum_by (λ part. part.count) parts; total = sum_by (λ part. part.total) parts }

-- the count or the total is more than a run's row can have
abbrev pub IsTooMuch : RunSum → Type 0
IsTooMuch sum = (2 ^ 32 ≤ sum.count) ⊎ (MOST_PENCE < sum.total)

-- the month is that of the open run
abbrev pub IsOpenMonth : Books → ℕ → Type 0
IsOpenMonth books month = (run : Run) × (open_row books ≡ Some run) × (run.month ≡ month)

-- it is that of the charges of the open run
abbrev pub IsSumOfOpen : RunSum → Books → Type 0
IsSumOfOpen sum books = (run : Run) × (open_row books ≡ Some run) × (sum ≡ sum_over run.month (charges_in books run.month))

-- the run, closed with its sum
abbrev pub with_sum : RunSum → Run → Run
with_sum sum run = record run { count = sum.count; total = sum.total; is_closed = true }

-- the books with this run in the place of the one of its month
abbrev pub with_run : ℕ → Run → Books → Books
with_run month run books = record books { runs = insert books.runs month run }

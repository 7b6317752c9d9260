-- What runs, and the rows of their months, are tested by.
use Rattle.std.specs.Prelude.{◌↔◌, ◌≤◌, ◌<◌, ℕ}
use Rattle.dh_model.specs.Books.{Books}
use Rattle.dh_model.specs.Rules.{Each, IsThere}

-- the runs stand under the months from the first to the one before the next
abbrev pub RunsAreMonths : Books → Type 0
RunsAreMonths books = (books.first ≤ books.next) × ((month : ℕ) → IsThere books.runs month ↔ ((books.first ≤ month) × (month < books.next)))

-- each charge and each part row is of a month that has a run
abbrev pub RowsHaveRuns : Books → Type 0
RowsHaveRuns books = Each books.charges (λ charge. IsThere books.runs charge.month) × Each books.parts (λ part. IsThere books.runs part.month)

-- Books of the first version, taken to the second.
use Rattle.std.specs.Prelude.{◌≡◌, ℕ, true, List, [], ◌∷◌, map, Option, None}
use Rattle.std.specs.FinMap.{empty, get, values}
use Rattle.dh_types.specs.declared.fee.PartFee.{PartFee}
use Rattle.dh_types.specs.declared.run.Part.{Part}
use Rattle.dh_types.specs.declared.version.Version.TheVariants.{Second}
use Rattle.dh_model.specs.declared.open_run.OpenRun.{OpenRun}
use Rattle.dh_model.specs.Answers.{balance}
use Rattle.dh_model.specs.Books.{Books, State, with_rows}
use Rattle.dh_model.specs.Rules.{Each}
use Rattle.dh_model.specs.Runs.{part_fee_key, part_key}
use Rattle.dh_laws.specs.InOrder.{IsInOrder}

-- the fee row of a part that was posted before there were fees
abbrev pub no_fee : Part → PartFee
no_fee part = record { month = part.month; branch = part.branch; fee = 0; total = 0 }

-- All that the books have stays. Each part has a fee row of 0.
abbrev pub migrated : Books → Books
migrated books = record books { version = Second; part_fees = with_rows part_fee_key (map no_fee (values books.parts)) empty }

-- the same of tables
abbrev pub migrated_state : State → State
migrated_state s = record s { books = migrated s.books }

-- the version alone
abbrev pub as_second : Books → Books
as_second books = record books { version = Second }

-- and the fee rows of these parts
abbrev pub with_no_fees : List Part → Books → Books
with_no_fees parts books = record books { part_fees = with_rows part_fee_key (map no_fee parts) books.part_fees }

-- no fee row has the key of one of these parts, and no two of them have one key
abbrev pub HaveNoFees : List Part → Books → Type 0
HaveNoFees [] books = Unit {0}
HaveNoFees (part ∷ parts) books = (get (with_no_fees parts books).part_fees (part_key part) ≡ None) × HaveNoFees parts books

-- no run is open
abbrev pub AreClosed : Books → Type 0
AreClosed books = Each books.runs (λ run. run.is_closed ≡ true)

-- migrated books are in order where the books were, and no run was open
abbrev pub MigratedBooksAreInOrder : Type 0
MigratedBooksAreInOrder = (size : ℕ) (books : Books) (run : Option OpenRun) → AreClosed books → IsInOrder size books run
    → IsInOrder size (migrated books) run

-- what is owed on a lease stays
abbrev pub MigrationMovesNoBalance : Type 0
MigrationMovesNoBalance = (books : Books) (lease : ℕ) → balance (migrated books) lease ≡ balance books lease

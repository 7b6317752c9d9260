-- What an answer is made of: rows among which are all that have a say in it.
use Rattle.std.specs.Prelude.{◌≡◌, ℕ, ◌&&◌, nat_eq, false, Bool, List, Option, Some, None, Result, OnOk}
use Rattle.std.specs.List.{list_any}
use Rattle.std.specs.FinMap.{empty, get}
use Rattle.sqlite.specs.State as sqlite
use Rattle.dh_days.specs.declared.limits.TheConstants.{FIRST_MONTH}
use Rattle.dh_types.specs.declared.property.Property.{Property}
use Rattle.dh_types.specs.declared.question.Question.{Question}
use Rattle.dh_types.specs.declared.question.Question.TheVariants as asked
use Rattle.dh_types.specs.declared.reply.Fault.{Fault}
use Rattle.dh_model.specs.Books.{Books, State, start}
use Rattle.dh_model.specs.Whole.{rows_where}
use Rattle.dh_model.specs.Checks.{is_same_text}
use Rattle.dh_model.specs.Runs.{leases_of_branch}
use Rattle.dh_laws.specs.AskedAbout.{asked_about, charged_by, leases_at, leases_of_owner, with_accounts}
use Rattle.dh_schema.specs.Looked.{AreBoth}

module _ (books : Books) where
  -- the owner, the owner's properties, the leases of these, and what was charged on these in the month
  abbrev pub charged_in : List ℕ → ℕ → Books
  charged_in owner month = record (charged_by books owner) {
    charges = rows_where (λ charge. list_any (λ lease. nat_eq charge.lease lease.terms.number) (leases_of_owner books owner) && nat_eq charge.month month)
        books.charges;
  }

  -- the branch, its properties, and the leases of these
  abbrev pub let_by : List ℕ → Books
  let_by branch = record (leases_at books branch) { properties = rows_where (λ property. is_same_text property.branch branch) books.properties }

  -- the rows that the question is about; of these an owner's statement takes the charges of its month alone, and what a branch is owed its own
  -- properties alone
  abbrev pub answered_from : Question → Books
  answered_from (asked.Arrears branch) = with_accounts books (let_by branch) (leases_of_branch books branch)
  answered_from (asked.Owner it) = record (charged_in it.owner it.month) {
    runs = rows_where (λ run. nat_eq run.month it.month) books.runs;
    part_fees = rows_where (λ fee. nat_eq fee.month it.month) books.part_fees;
  }
  answered_from question = asked_about books question

-- the books have no clients, charges and receipts
abbrev pub HasNoAccounts : Books → Type 0
HasNoAccounts books = books ≡ record books { clients = empty; charges = empty; receipts = empty }

-- into books without a row came those that this takes of the tables
abbrev pub Fills : (Books → Books) → Result (Unit {0}) Fault → sqlite.State → State → sqlite.State → State → Type 0
Fills rows result old books new after = (t : State) → AreBoth t (start FIRST_MONTH) old books
    → OnOk result (AreBoth t (record { books = rows t.books; open_run = None }) new after)

-- into books that have the properties that a test picks out, and no leases, came the leases on these properties
abbrev pub GathersLeases : Result (Unit {0}) Fault → sqlite.State → State → sqlite.State → State → Type 0
GathersLeases result old books new after = (t b : State) (is_its : Option Property → Bool) → AreBoth t b old books → is_its None ≡ false
    → b.books.leases ≡ empty → b.books.properties ≡ rows_where (λ property. is_its (Some property)) t.books.properties
    → OnOk result (AreBoth t (record b {
      books = record b.books { leases = rows_where (λ lease. is_its (get t.books.properties lease.terms.property)) t.books.leases };
    }) new after)

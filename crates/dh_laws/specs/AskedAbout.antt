-- What a question is about: rows among which are all that have a say in its answer.
use Rattle.std.specs.Prelude.{◌≡◌, ℕ, Bool, true, false, nat_eq, List, Option, Some, None, option_map}
use Rattle.std.specs.List.{filter, list_any}
use Rattle.std.specs.FinMap.{get, values}
use Rattle.dh_days.specs.declared.limits.TheConstants.{FIRST_MONTH}
use Rattle.dh_types.specs.declared.property.Property.{Property}
use Rattle.dh_types.specs.declared.lease.Lease.{Lease}
use Rattle.dh_types.specs.declared.question.Question.{Question}
use Rattle.dh_types.specs.declared.question.Question.TheVariants as asked
use Rattle.dh_model.specs.declared.open_run.OpenRun.{OpenRun}
use Rattle.dh_model.specs.Answers.{is_put_off, report}
use Rattle.dh_model.specs.Books.{Books, empty_books}
use Rattle.dh_model.specs.Checks.{is_same_text}
use Rattle.dh_model.specs.Runs.{is_property_of, leases_of_branch}
use Rattle.dh_model.specs.Whole.{rows_where}
use Rattle.dh_laws.specs.InOrder.{AreKeyed}

-- books without a row, whose months stand for nothing
abbrev pub no_row : Books
no_row = empty_books FIRST_MONTH

abbrev pub is_owned_by : List ℕ → Option Property → Bool
is_owned_by owner None = false
is_owned_by owner (Some property) = is_same_text property.owner owner

module _ (books : Books) where
  -- the properties, and the leases on them
  abbrev pub let_or_vacant : Books
  let_or_vacant = record no_row { properties = books.properties; leases = books.leases; endings = books.endings }

  -- the lease, and what was charged and paid on it
  abbrev pub account_of : ℕ → Books
  account_of number = record no_row {
    leases = rows_where (λ lease. nat_eq lease.terms.number number) books.leases;
    charges = rows_where (λ charge. nat_eq charge.lease number) books.charges;
    receipts = rows_where (λ receipt. nat_eq receipt.payment.lease number) books.receipts;
  }

  -- the books with the clients of these leases, and what was charged and paid on them
  abbrev pub with_accounts : Books → List Lease → Books
  with_accounts rows leases = record rows {
    clients = rows_where (λ client. list_any (λ lease. is_same_text client.number lease.terms.client) leases) books.clients;
    charges = rows_where (λ charge. list_any (λ lease. nat_eq charge.lease lease.terms.number) leases) books.charges;
    receipts = rows_where (λ receipt. list_any (λ lease. nat_eq receipt.payment.lease lease.terms.number) leases) books.receipts;
  }

  -- the branch, all properties, and the leases of the branch's properties
  abbrev pub leases_at : List ℕ → Books
  leases_at branch = record no_row {
    branches = rows_where (λ it. is_same_text it.number branch) books.branches;
    properties = books.properties;
    leases = rows_where (λ lease. is_property_of branch (get books.properties lease.terms.property)) books.leases;
  }

  -- the leases of the owner's properties
  abbrev pub leases_of_owner : List ℕ → List Lease
  leases_of_owner owner = filter (λ lease. is_owned_by owner (get books.properties lease.terms.property)) (values books.leases)

  -- the owner, the owner's properties, the leases of these, and what was charged on these
  abbrev pub charged_by : List ℕ → Books
  charged_by owner = record no_row {
    owners = rows_where (λ it. is_same_text it.number owner) books.owners;
    properties = rows_where (λ property. is_same_text property.owner owner) books.properties;
    leases = rows_where (λ lease. is_owned_by owner (get books.properties lease.terms.property)) books.leases;
    charges = rows_where (λ charge. list_any (λ lease. nat_eq charge.lease lease.terms.number) (leases_of_owner owner)) books.charges;
  }

  -- the rows that the question is about
  abbrev pub asked_about : Question → Books
  asked_about asked.Branches = record no_row { branches = books.branches }
  asked_about (asked.Vacant day) = let_or_vacant
  asked_about (asked.Matching it) = record let_or_vacant { clients = rows_where (λ client. is_same_text client.number it.client) books.clients }
  asked_about (asked.Statement lease) = account_of lease
  asked_about (asked.Arrears branch) = with_accounts (leases_at branch) (leases_of_branch books branch)
  asked_about (asked.Run month) = record no_row {
    runs = rows_where (λ run. nat_eq run.month month) books.runs;
    parts = rows_where (λ part. nat_eq part.month month) books.parts;
  }
  asked_about (asked.Owner it) = record (charged_by it.owner) {
    runs = rows_where (λ run. nat_eq run.month it.month) books.runs;
    part_fees = rows_where (λ fee. nat_eq fee.month it.month) books.part_fees;
  }

-- open runs of one month, or none
abbrev pub AreOfOneMonth : Option OpenRun → Option OpenRun → Type 0
AreOfOneMonth run other = option_map (λ at. at.month) run ≡ option_map (λ at. at.month) other

-- the rows that a question is about answer it, beside an open run of the same month where one would put it off
abbrev pub AnsweredByItsRows : Type 0
AnsweredByItsRows = (books : Books) (run seen : Option OpenRun) (question : Question) → AreKeyed books
    → (is_put_off question ≡ true → AreOfOneMonth seen run)
    → report (record { books = asked_about books question; open_run = seen }) question ≡ report (record { books = books; open_run = run }) question

-- What a command looks at: few rows, among which are all that have a say in its verdict.
use Rattle.std.specs.Prelude.{◌≡◌, ◌≤◌, ℕ, ◌-◌, Bool, false, nat_eq, ◌&&◌, ◌||◌, if◌then◌else◌, List, Option, Some, None, option_map}
use Rattle.std.specs.Ordering.{nat_cmp}
use Rattle.std.specs.FinMap.{FinMap, empty, get, len}
use Rattle.dh_values.specs.declared.receipt_kind.ReceiptKind.TheVariants.{Deposit}
use Rattle.dh_types.specs.declared.staff.Staff.{Staff}
use Rattle.dh_types.specs.declared.property.Property.{Property}
use Rattle.dh_types.specs.declared.client.Registration.{Registration}
use Rattle.dh_types.specs.declared.viewing.Viewing.{Viewing}
use Rattle.dh_types.specs.declared.lease.LeaseTerms.{LeaseTerms}
use Rattle.dh_types.specs.declared.lease.Lease.{Lease}
use Rattle.dh_types.specs.declared.lease.Receipt.{Receipt}
use Rattle.dh_types.specs.declared.run.Run.{Run}
use Rattle.dh_types.specs.declared.command.Command.{Command}
use Rattle.dh_types.specs.declared.command.Command.TheVariants as command
use Rattle.dh_types.specs.declared.command.ReceiptOrder.{ReceiptOrder}
use Rattle.dh_types.specs.Records.{is_same_optional, is_same_receipt_kind}
use Rattle.dh_model.specs.declared.open_run.OpenRun.{OpenRun}
use Rattle.dh_model.specs.declared.rows.Change.{Change}
use Rattle.dh_model.specs.declared.rows.Verdict.{Verdict}
use Rattle.dh_model.specs.declared.rows.Verdict.TheVariants as verdict
use Rattle.dh_model.specs.Books.{Books, empty_books, pair_cmp, text_cmp}
use Rattle.dh_model.specs.Edits.{CanEdit, edit_of}
use Rattle.dh_model.specs.Checks.{is_same_text}
use Rattle.dh_model.specs.Verdicts.{verdict_among, verdict_on}
use Rattle.dh_model.specs.Rules.{KeysInOrder, RunsInOrder}
use Rattle.dh_model.specs.Whole.{IsOpenAt, open_row, rows_where}
use Rattle.dh_laws.specs.InOrder.{AreKeyed, IsInOrder}

-- the manager, where one is given
abbrev pub manager_in : FinMap text_cmp Staff → Option (List ℕ) → FinMap text_cmp Staff
manager_in staff None = empty
manager_in staff (Some number) = rows_where (λ member. is_same_text member.number number) staff

-- the property, and those of the manager, where one is given
abbrev pub properties_beside : FinMap text_cmp Property → List ℕ → Option (List ℕ) → FinMap text_cmp Property
properties_beside properties number None = rows_where (λ property. is_same_text property.number number) properties
properties_beside properties number (Some member) =
    rows_where (λ property. is_same_text property.number number || is_same_optional is_same_text property.staff (Some member)) properties

-- the client's registration at the branch of the property, where that is there
abbrev pub registration_for
    : FinMap (pair_cmp text_cmp text_cmp) Registration → List ℕ → Option Property → FinMap (pair_cmp text_cmp text_cmp) Registration
registration_for registrations client None = empty
registration_for registrations client (Some property) =
    rows_where (λ it. is_same_text it.client client && is_same_text it.branch property.branch) registrations

-- the lease has this number, or is of the property, or is the client's and starts that day
abbrev pub is_beside : LeaseTerms → Lease → Bool
is_beside terms lease =
    (nat_eq lease.terms.number terms.number || is_same_text lease.terms.property terms.property)
    || (is_same_text lease.terms.client terms.client && nat_eq lease.terms.start terms.start)

-- and so is that of an ending
abbrev pub is_some_beside : LeaseTerms → Option Lease → Bool
is_some_beside terms None = false
is_some_beside terms (Some lease) = is_beside terms lease

-- the receipt has this key, or is the deposit on the lease
abbrev pub is_before : ReceiptOrder → Receipt → Bool
is_before order receipt =
    is_same_text receipt.key order.key || (nat_eq receipt.payment.lease order.payment.lease && is_same_receipt_kind receipt.payment.kind Deposit)

module _ (books : Books) where
  -- the months and the version alone
  abbrev pub no_rows : Books
  no_rows = record (empty_books books.first) { next = books.next; version = books.version }

  -- the receipt and the run that have this key
  abbrev pub of_key : List ℕ → Books
  of_key key = record no_rows {
    receipts = rows_where (λ receipt. is_same_text receipt.key key) books.receipts;
    runs = rows_where (λ run. is_same_text run.key key) books.runs;
  }

  -- the viewing of this client and property
  abbrev pub viewing_at : List ℕ → List ℕ → FinMap (pair_cmp text_cmp text_cmp) Viewing
  viewing_at client property = rows_where (λ viewing. is_same_text viewing.client client && is_same_text viewing.property property) books.viewings

  -- the rows that the command looks at
  abbrev pub looked_at : Command → Books
  looked_at (command.Branch it) = record no_rows { branches = rows_where (λ branch. is_same_text branch.number it.number) books.branches }
  looked_at (command.Fee it) = record no_rows {
    branches = rows_where (λ branch. is_same_text branch.number it.branch) books.branches;
    branch_fees = rows_where (λ fee. is_same_text fee.branch it.branch) books.branch_fees;
  }
  looked_at (command.Staff it) = record no_rows {
    branches = rows_where (λ branch. is_same_text branch.number it.branch) books.branches;
    staff = rows_where (λ member. is_same_text member.number it.number) books.staff;
  }
  looked_at (command.Owner it) = record no_rows { owners = rows_where (λ owner. is_same_text owner.number it.number) books.owners }
  looked_at (command.Property it) = record no_rows {
    branches = rows_where (λ branch. is_same_text branch.number it.branch) books.branches;
    staff = manager_in books.staff it.staff;
    owners = rows_where (λ owner. is_same_text owner.number it.owner) books.owners;
    properties = properties_beside books.properties it.number it.staff;
  }
  looked_at (command.Assign it) = record no_rows {
    staff = manager_in books.staff it.staff;
    properties = properties_beside books.properties it.property it.staff;
  }
  looked_at (command.Rent it) = record no_rows { properties = rows_where (λ property. is_same_text property.number it.property) books.properties }
  looked_at (command.Client it) = record no_rows { clients = rows_where (λ client. is_same_text client.number it.number) books.clients }
  looked_at (command.Register it) = record no_rows {
    branches = rows_where (λ branch. is_same_text branch.number it.branch) books.branches;
    staff = rows_where (λ member. is_same_text member.number it.staff) books.staff;
    clients = rows_where (λ client. is_same_text client.number it.client) books.clients;
    registrations = rows_where (λ other. is_same_text other.client it.client && is_same_text other.branch it.branch) books.registrations;
  }
  looked_at (command.Viewing it) = record no_rows {
    properties = rows_where (λ property. is_same_text property.number it.property) books.properties;
    clients = rows_where (λ client. is_same_text client.number it.client) books.clients;
    viewings = viewing_at it.client it.property;
  }
  looked_at (command.Comment it) = record no_rows { viewings = viewing_at it.client it.property }
  looked_at (command.Inspection it) = record no_rows {
    staff = rows_where (λ member. is_same_text member.number it.staff) books.staff;
    properties = rows_where (λ property. is_same_text property.number it.property) books.properties;
    inspections = rows_where (λ other. is_same_text other.property it.property && nat_eq other.day it.day) books.inspections;
  }
  looked_at (command.Lease it) = record no_rows {
    properties = rows_where (λ property. is_same_text property.number it.property) books.properties;
    clients = rows_where (λ client. is_same_text client.number it.client) books.clients;
    registrations = registration_for books.registrations it.client (get books.properties it.property);
    leases = rows_where (is_beside it) books.leases;
    endings = rows_where (λ ending. is_some_beside it (get books.leases ending.lease)) books.endings;
  }
  looked_at (command.End it) = record no_rows {
    leases = rows_where (λ lease. nat_eq lease.terms.number it.lease) books.leases;
    endings = rows_where (λ ending. nat_eq ending.lease it.lease) books.endings;
  }
  looked_at (command.Receipt it) = record (of_key it.key) {
    leases = rows_where (λ lease. nat_eq lease.terms.number it.payment.lease) books.leases;
    receipts = rows_where (is_before it) books.receipts;
  }
  looked_at (command.Run it) = of_key it.key
  looked_at (command.Open it) = of_key it.key
  looked_at (command.Post count) = no_rows

-- some rows, how many receipts there are, and the open run
pub record Facts : Type 0 where
  pub books : Books
  pub receipts : ℕ
  pub open_run : Option OpenRun

-- a receipt looks at the number of receipts, and nothing else does
abbrev pub Counts : Command → FinMap nat_cmp Receipt → ℕ → Type 0
Counts (command.Receipt it) receipts count = count ≡ len receipts
Counts told receipts count = Unit {0}

-- the month of an open run
abbrev pub month_open : Option OpenRun → Option ℕ
month_open run = option_map (λ at. at.month) run

-- what the command looks at in books with this open run, of which it sees the month alone
pub record IsCutOf (facts : Facts) (books : Books) (run : Option OpenRun) (told : Command) : Type 0 where
  pub rows : facts.books ≡ looked_at books told
  pub counted : Counts told books.receipts facts.receipts
  pub month : month_open facts.open_run ≡ month_open run

-- the verdict on a command, where nothing else is known
abbrev pub decided_on : Facts → Command → Verdict
decided_on facts told = verdict_among facts.books facts.receipts facts.open_run told

-- what a command looks at decides its verdict
abbrev pub JudgedByItsFacts : Type 0
JudgedByItsFacts = (books : Books) (run : Option OpenRun) (told : Command) (facts : Facts) → AreKeyed books → IsCutOf facts books run told
    → decided_on facts told ≡ verdict_on books run told

-- this receipt has the greatest number, or there is none
abbrev pub IsLast : FinMap nat_cmp Receipt → Option Receipt → Type 0
IsLast receipts None = (number : ℕ) → get receipts number ≡ None
IsLast receipts (Some last) =
    (get receipts last.number ≡ Some last) × ((number : ℕ) (receipt : Receipt) → get receipts number ≡ Some receipt → number ≤ last.number)

abbrev pub number_of : Option Receipt → ℕ
number_of None = 0
number_of (Some receipt) = receipt.number

-- by the rule on keys there are as many receipts as the last one's number
abbrev pub LastNumberIsCount : Type 0
LastNumberIsCount = (books : Books) (last : Option Receipt) → AreKeyed books → KeysInOrder books → IsLast books.receipts last
    → len books.receipts ≡ number_of last

abbrev pub unless_closed : Option Run → Option Run
unless_closed None = None
unless_closed (Some run) = if run.is_closed then None else Some run

-- the run of the month before the next one, where it is not closed
abbrev pub last_open : Books → Option Run
last_open books = unless_closed (get books.runs (books.next - 1))

-- by the rule on months only the last run can be open: it is found by its key
abbrev pub OpenRunIsLast : Type 0
OpenRunIsLast = (books : Books) → AreKeyed books → RunsInOrder books → open_row books ≡ last_open books

-- so the month of the run that the books show is found by its key
abbrev pub OpenMonthIsLast : ℕ → Type 0
OpenMonthIsLast size = (books : Books) (run : Option OpenRun) → AreKeyed books → RunsInOrder books → IsOpenAt size books run
    → month_open run ≡ option_map (λ row. row.month) (last_open books)

-- the key of a row that is added is new, and the row that is changed is there
abbrev pub FitsIn : Change → Books → Type 0
FitsIn rows = CanEdit (edit_of rows)

-- the rows of an accepted command fit in books in order
abbrev pub AcceptedChangesFit : ℕ → Type 0
AcceptedChangesFit size = (books : Books) (run : Option OpenRun) (told : Command) (rows : Change) → IsInOrder size books run
    → verdict_on books run told ≡ verdict.Change rows → FitsIn rows books

-- What a change does to the rows of one kind.
use Rattle.std.specs.Prelude.{◌≡◌, ◌+◌, Option, Some, None}
use Rattle.std.specs.FinMap.{get, insert}
use Rattle.dh_types.specs.declared.run.Run.{Run}
use Rattle.dh_model.specs.declared.rows.Change.{Change}
use Rattle.dh_model.specs.declared.rows.Change.TheVariants as change
use Rattle.dh_types.specs.declared.version.Version.{Version}
use Rattle.dh_types.specs.declared.version.Version.TheVariants.{First}
use Rattle.dh_model.specs.Books.{Books}
use Rattle.dh_model.specs.Kinds.{Kind, came_with, key_in, key_of, record_of, records_of, with_records}
use Rattle.dh_model.specs.Kinds.{Branches, BranchFees, Clients, Endings, Inspections, Leases, Owners, Properties, Receipts, Registrations, Runs}
use Rattle.dh_model.specs.Kinds.{Staff, Viewings}

pub data Edit : Type 0 where
  -- a row is added, whose key is new
  Insert : (kind : Kind) → record_of kind → Edit
  -- a row takes the place of the one that has its key
  Replace : (kind : Kind) → record_of kind → Edit
  -- the row that has the key becomes another
  Update : (kind : Kind) → key_of kind → (record_of kind → record_of kind) → Edit
  -- the row of a month's run is added, and the next month moved on
  Begin : Run → Edit
  Nothing : Edit

abbrev pub edit_of : Change → Edit
edit_of (change.Branch it) = Insert Branches it
edit_of (change.NewFee it) = Insert BranchFees it
edit_of (change.Fee it) = Replace BranchFees it
edit_of (change.Staff it) = Insert Staff it
edit_of (change.Owner it) = Insert Owners it
edit_of (change.Property it) = Insert Properties it
edit_of (change.Assign it) = Update Properties it.property (λ row. record row { staff = it.staff })
edit_of (change.Rent it) = Update Properties it.property (λ row. record row { rent = it.rent })
edit_of (change.Client it) = Insert Clients it
edit_of (change.Register it) = Insert Registrations it
edit_of (change.Viewing it) = Insert Viewings it
edit_of (change.Comment it) = Update Viewings (it.client, it.property) (λ row. record row { comment = Some it.comment })
edit_of (change.Inspection it) = Insert Inspections it
edit_of (change.Lease it) = Insert Leases it
edit_of (change.NewEnding it) = Insert Endings it
edit_of (change.Ending it) = Replace Endings it
edit_of (change.Receipt it) = Insert Receipts it
edit_of (change.Open it) = Begin it
edit_of change.Post = Nothing

-- the books with a row put under its key
abbrev pub with_row : (kind : Kind) → record_of kind → Books → Books
with_row kind it books = with_records kind (insert (records_of kind books) (key_in kind it) it) books

-- with the row under a key made another, where one is there
abbrev pub updated : (kind : Kind) → key_of kind → (record_of kind → record_of kind) → Books → Option (record_of kind) → Books
updated kind key into books None = books
updated kind key into books (Some row) = with_records kind (insert (records_of kind books) key (into row)) books

abbrev pub edited : Edit → Books → Books
edited (Insert kind it) books = with_row kind it books
edited (Replace kind it) books = with_row kind it books
edited (Update kind key into) books = updated kind key into books (get (records_of kind books) key)
edited (Begin it) books = record (with_row Runs it books) { next = it.month + 1 }
edited Nothing books = books

-- the key of a row that is added is new, and the row that is changed is there
abbrev pub CanEdit : Edit → Books → Type 0
CanEdit (Insert kind it) books = get (records_of kind books) (key_in kind it) ≡ None
CanEdit (Replace kind it) books = (there : record_of kind) × (get (records_of kind books) (key_in kind it) ≡ Some there)
CanEdit (Update kind key into) books = (there : record_of kind) × (get (records_of kind books) key ≡ Some there)
CanEdit (Begin it) books = get books.runs it.month ≡ None
CanEdit Nothing books = Unit {0}

-- the version that the table of the rows came with
abbrev pub came_with_edit : Edit → Version
came_with_edit (Insert kind it) = came_with kind
came_with_edit (Replace kind it) = came_with kind
came_with_edit (Update kind key into) = came_with kind
came_with_edit _ = First

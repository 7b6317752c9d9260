-- What holds of the books where rows are those of an accepted command.
use Rattle.std.proofs.Common.{◌≡◌, refl, sym, ap, ◌+◌, ◌<◌, ◌≤◌, true, false, nat_eq, ◌&&◌, Option, Some, None, IfSome}
use Rattle.std.specs.FinMap.{get, insert, len, values}
use Rattle.dh_values.specs.declared.receipt_kind.ReceiptKind.TheVariants.{Deposit}
use Rattle.dh_days.specs.Days.{month_of_day}
use Rattle.dh_types.specs.declared.property.Property.{Property}
use Rattle.dh_types.specs.declared.lease.Lease.{Lease}
use Rattle.dh_types.specs.declared.lease.Ending.{Ending}
use Rattle.dh_types.specs.declared.lease.Receipt.{Receipt}
use Rattle.dh_types.specs.declared.run.Run.{Run}
use Rattle.dh_types.specs.declared.command.Assignment.{Assignment}
use Rattle.dh_model.specs.declared.open_run.OpenRun.{OpenRun}
use Rattle.dh_model.specs.declared.rows.Change.{Change}
use Rattle.dh_model.specs.declared.rows.Change.TheVariants as change
use Rattle.dh_model.specs.Books.{Books}
use Rattle.dh_model.specs.Leases.{length_of, overlap, running}
use Rattle.dh_model.specs.Rules.{Refers}
use Rattle.dh_model.specs.Kinds.{Kind, key_in, key_of, record_of, records_of, with_records}
use Rattle.dh_model.specs.Edits.{Begin, CanEdit, Edit, Insert, Nothing, Replace, Update, edit_of, edited, updated}
use Rattle.dh_model.specs.Machine.{changed}
use Rattle.dh_model.specs.Checks.{is_same_text, works_at}
use Rattle.dh_model.proofs.Among.{Among}
use Rattle.dh_laws.proofs.VerdictLemmas.Checks.{CanManage, IsFirstDeposit, IsNewKey}
use Rattle.dh_laws.proofs.InvariantLemmas.Growth.{if_some}

module _ (books : Books) (run : Option OpenRun) where
  -- a manager of a property that is there
  pub record Assigns (it : Assignment) : Type 0 where
    pub row : Property
    pub is : get books.properties it.property ≡ Some row
    pub staff : IfSome it.staff (CanManage books row.branch row.number)

  pub record AddsLease (lease : Lease) : Type 0 where
    pub closed : run ≡ None
    pub in_time : books.next ≤ month_of_day lease.terms.start
    pub first : (other : Lease) → Among (values books.leases) other
        → (is_same_text other.terms.client lease.terms.client && nat_eq other.terms.start lease.terms.start) ≡ false
    pub free : (other : Lease) → Among (values books.leases) other → overlap lease.terms (running books.endings other) ≡ false

  -- an end of a lease that is there, before the end that it has and after the months that were run
  pub record EndsLease (it : Ending) : Type 0 where
    pub closed : run ≡ None
    pub lease : Lease
    pub is : get books.leases it.lease ≡ Some lease
    pub shorter : it.months < length_of books.endings lease
    pub in_time : books.next ≤ month_of_day lease.terms.start + it.months

  pub record AddsReceipt (it : Receipt) : Type 0 where
    pub deposit : it.payment.kind ≡ Deposit → IsFirstDeposit books it.payment
    pub key : IsNewKey books it.key

  pub record OpensRun (it : Run) : Type 0 where
    pub closed : run ≡ None
    pub month : it.month ≡ books.next
    pub is_open : it.is_closed ≡ false
    pub count : it.count ≡ 0
    pub total : it.total ≡ 0
    pub key : IsNewKey books it.key

  -- the key of a new row is new; a receipt's is the next number
  abbrev pub IsNew : (kind : Kind) → record_of kind → Type 0
  IsNew Kind.Receipts it = it.number ≡ len books.receipts + 1
  IsNew kind it = get (records_of kind books) (key_in kind it) ≡ None

  -- what holds of a row that is put in, beside what it names
  abbrev pub Fits : (kind : Kind) → record_of kind → Type 0
  Fits Kind.Branches it = run ≡ None
  Fits Kind.BranchFees it = run ≡ None
  Fits Kind.Properties it = IfSome it.staff (CanManage books it.branch it.number)
  Fits Kind.Registrations it = works_at it.branch (get books.staff it.staff) ≡ true
  Fits Kind.Leases it = AddsLease it
  Fits Kind.Endings it = EndsLease it
  Fits Kind.Receipts it = AddsReceipt it
  Fits kind it = Unit {0}

  pub record Puts (kind : Kind) (it : record_of kind) (Known : Type 0) : Type 0 where
    pub known : Known
    pub refers : Refers books kind it
    pub fits : Fits kind it

  pub record Alters (kind : Kind) (key : key_of kind) (into : record_of kind → record_of kind) : Type 0 where
    pub row : record_of kind
    pub is : get (records_of kind books) key ≡ Some row
    pub refers : Refers books kind row → Refers books kind (into row)

  -- what holds where this is the edit of an accepted command
  abbrev pub Edits : Edit → Type 0
  Edits (Insert kind it) = Puts kind it (IsNew kind it)
  Edits (Replace kind it) = Puts kind it (CanEdit (Replace kind it) books)
  Edits (Update kind key into) = Alters kind key into
  Edits (Begin it) = OpensRun it
  Edits Nothing = Unit {0}

  -- what holds where these are the rows of an accepted command
  abbrev pub Accepted : Change → Type 0
  Accepted (change.Assign it) = Assigns it
  Accepted rows = Edits (edit_of rows)

  abbrev pub edits : (rows : Change) → Accepted rows → Edits (edit_of rows)
  edits (change.Assign it) a = record {
    row = a.row;
    is = a.is;
    refers = λ r. record { owner = r.owner; staff = if_some it.staff (λ m can. can.there) a.staff; branch = r.branch };
  }
  edits rows a = a

  abbrev pub with_edit : (edit : Edit) → Edits edit → Books
  with_edit (Update kind key into) a = with_records kind (insert (records_of kind books) key (into a.row)) books
  with_edit edit a = edited edit books

  with_edit_is : (edit : Edit) (a : Edits edit) → with_edit edit a ≡ edited edit books
  with_edit_is (Update kind key into) a = ap (updated kind key into books) (sym a.is)
  with_edit_is edit a = refl

  -- the books that an accepted change makes, with the row that it found
  abbrev pub turned : (rows : Change) → Accepted rows → Books
  turned rows a = with_edit (edit_of rows) (edits rows a)

  pub turned_is : (rows : Change) (a : Accepted rows) → turned rows a ≡ changed rows books
  turned_is rows a = with_edit_is (edit_of rows) (edits rows a)

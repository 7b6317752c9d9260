-- The kinds of record that books have: their keys, the order of these, and where the books have them.
use Rattle.std.specs.Prelude.{◌≡◌, ℕ, List}
use Rattle.std.specs.declared.cmp.Ordering.{Ordering}
use Rattle.std.specs.Ordering.{nat_cmp}
use Rattle.std.specs.FinMap.{FinMap}
use Rattle.dh_types.specs.declared.branch.Branch.{Branch}
use Rattle.dh_types.specs.declared.staff.Staff as staff
use Rattle.dh_types.specs.declared.owner.Owner.{Owner}
use Rattle.dh_types.specs.declared.property.Property.{Property}
use Rattle.dh_types.specs.declared.client.Client.{Client}
use Rattle.dh_types.specs.declared.client.Registration.{Registration}
use Rattle.dh_types.specs.declared.viewing.Viewing.{Viewing}
use Rattle.dh_types.specs.declared.viewing.Inspection.{Inspection}
use Rattle.dh_types.specs.declared.lease.Lease.{Lease}
use Rattle.dh_types.specs.declared.lease.Charge.{Charge}
use Rattle.dh_types.specs.declared.lease.Receipt.{Receipt}
use Rattle.dh_types.specs.declared.lease.Ending.{Ending}
use Rattle.dh_types.specs.declared.run.Run.{Run}
use Rattle.dh_types.specs.declared.run.Part.{Part}
use Rattle.dh_types.specs.declared.fee.BranchFee.{BranchFee}
use Rattle.dh_types.specs.declared.fee.PartFee.{PartFee}
use Rattle.dh_types.specs.declared.version.Version.{Version}
use Rattle.dh_types.specs.declared.version.Version.TheVariants.{First, Second}
use Rattle.dh_model.specs.Books.{Books, pair_cmp, text_cmp}
use Rattle.dh_model.specs.Runs.{charge_key, part_fee_key, part_key}

pub data Kind : Type 0 where
  Branches : Kind
  Staff : Kind
  Owners : Kind
  Properties : Kind
  Clients : Kind
  Registrations : Kind
  Viewings : Kind
  Inspections : Kind
  Leases : Kind
  Charges : Kind
  Receipts : Kind
  Runs : Kind
  Parts : Kind
  BranchFees : Kind
  PartFees : Kind
  Endings : Kind

-- a key is a code, a number, or two of these
pub data KeyForm : Type 0 where
  Code : KeyForm
  Number : KeyForm
  Pair : KeyForm → KeyForm → KeyForm

abbrev pub key_type : KeyForm → Type 0
key_type Code = List ℕ
key_type Number = ℕ
key_type (Pair one two) = key_type one × key_type two

abbrev pub order_by : (form : KeyForm) → key_type form → key_type form → Ordering
order_by Code = text_cmp
order_by Number = nat_cmp
order_by (Pair one two) = pair_cmp (order_by one) (order_by two)

-- What there is to a kind of record.
pub record Entry : Type 1 where
  -- the form of its keys
  pub form : KeyForm
  -- its records, and the key of each
  pub Row : Type 0
  pub key : Row → key_type form
  -- the version that it came with
  pub since : Version
  -- where the books have its records, and the books with others
  pub held : Books → FinMap (order_by form) Row
  pub with : Books → FinMap (order_by form) Row → Books

abbrev pub entry : Kind → Entry
entry Branches = record {
  form = Code;
  Row = Branch;
  key = λ it. it.number;
  since = First;
  held = λ books. books.branches;
  with = λ books rows. record books { branches = rows };
}
entry Staff = record {
  form = Code;
  Row = staff.Staff;
  key = λ it. it.number;
  since = First;
  held = λ books. books.staff;
  with = λ books rows. record books { staff = rows };
}
entry Owners = record {
  form = Code;
  Row = Owner;
  key = λ it. it.number;
  since = First;
  held = λ books. books.owners;
  with = λ books rows. record books { owners = rows };
}
entry Properties = record {
  form = Code;
  Row = Property;
  key = λ it. it.number;
  since = First;
  held = λ books. books.properties;
  with = λ books rows. record books { properties = rows };
}
entry Clients = record {
  form = Code;
  Row = Client;
  key = λ it. it.number;
  since = First;
  held = λ books. books.clients;
  with = λ books rows. record books { clients = rows };
}
entry Registrations = record {
  form = Pair Code Code;
  Row = Registration;
  key = λ it. (it.client, it.branch);
  since = First;
  held = λ books. books.registrations;
  with = λ books rows. record books { registrations = rows };
}
entry Viewings = record {
  form = Pair Code Code;
  Row = Viewing;
  key = λ it. (it.client, it.property);
  since = First;
  held = λ books. books.viewings;
  with = λ books rows. record books { viewings = rows };
}
entry Inspections = record {
  form = Pair Code Number;
  Row = Inspection;
  key = λ it. (it.property, it.day);
  since = First;
  held = λ books. books.inspections;
  with = λ books rows. record books { inspections = rows };
}
entry Leases = record {
  form = Number;
  Row = Lease;
  key = λ it. it.terms.number;
  since = First;
  held = λ books. books.leases;
  with = λ books rows. record books { leases = rows };
}
entry Charges = record {
  form = Pair Number Number;
  Row = Charge;
  key = λ it. charge_key it;
  since = First;
  held = λ books. books.charges;
  with = λ books rows. record books { charges = rows };
}
entry Receipts = record {
  form = Number;
  Row = Receipt;
  key = λ it. it.number;
  since = First;
  held = λ books. books.receipts;
  with = λ books rows. record books { receipts = rows };
}
entry Runs = record {
  form = Number;
  Row = Run;
  key = λ it. it.month;
  since = First;
  held = λ books. books.runs;
  with = λ books rows. record books { runs = rows };
}
entry Parts = record {
  form = Pair Number Code;
  Row = Part;
  key = λ it. part_key it;
  since = First;
  held = λ books. books.parts;
  with = λ books rows. record books { parts = rows };
}
entry BranchFees = record {
  form = Code;
  Row = BranchFee;
  key = λ it. it.branch;
  since = Second;
  held = λ books. books.branch_fees;
  with = λ books rows. record books { branch_fees = rows };
}
entry PartFees = record {
  form = Pair Number Code;
  Row = PartFee;
  key = λ it. part_fee_key it;
  since = Second;
  held = λ books. books.part_fees;
  with = λ books rows. record books { part_fees = rows };
}
entry Endings = record {
  form = Number;
  Row = Ending;
  key = λ it. it.lease;
  since = Second;
  held = λ books. books.endings;
  with = λ books rows. record books { endings = rows };
}

-- the version that a kind came with
abbrev pub came_with : Kind → Version
came_with kind = (entry kind).since

-- What came with the first version is in both, and what came with the second in that alone.
abbrev pub IsSince : Version → Version → Type 0
IsSince First version = Unit {0}
IsSince Second version = version ≡ Second

-- books of the version have rows of the kind
abbrev pub HasKind : Version → Kind → Type 0
HasKind version kind = IsSince (came_with kind) version

abbrev pub key_of : Kind → Type 0
key_of kind = key_type (entry kind).form

abbrev pub record_of : Kind → Type 0
record_of kind = (entry kind).Row

-- the order of the keys
abbrev pub order_of : (kind : Kind) → key_of kind → key_of kind → Ordering
order_of kind = order_by (entry kind).form

-- the key of a record
abbrev pub key_in : (kind : Kind) → record_of kind → key_of kind
key_in kind = (entry kind).key

-- the records of a kind
abbrev pub records_of : (kind : Kind) → Books → FinMap (order_of kind) (record_of kind)
records_of kind = (entry kind).held

-- the books with other records of a kind
abbrev pub with_records : (kind : Kind) → FinMap (order_of kind) (record_of kind) → Books → Books
with_records kind rows books = (entry kind).with books rows

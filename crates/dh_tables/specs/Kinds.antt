-- How the records of each kind stand in their table.
use Rattle.std.specs.Prelude.{ℕ}
use Rattle.sqlite_schema.specs.declared.schema.Table.{Table}
use Rattle.std.specs.declared.cmp.Ordering.{Ordering}
use Rattle.dh_types.specs.declared.version.Version.{Version}
use Rattle.dh_model.specs.Kinds.{Kind, came_with, key_of, order_of, record_of}
use Rattle.dh_model.specs.Kinds.{Branches, Staff, Owners, Properties, Clients, Registrations, Viewings, Inspections, Leases, Charges, Receipts, Runs}
use Rattle.dh_model.specs.Kinds.{Parts, BranchFees, PartFees, Endings}
use Rattle.dh_sql.specs.Shape.{Shape}
use Rattle.dh_tables.specs.Tables.{Accessor, Adding}
pub use Rattle.dh_tables.specs.Accessors.{accessor_of}
use Rattle.dh_tables.specs.BranchTable.{branch_adding, branch_shape}
use Rattle.dh_tables.specs.StaffTable.{staff_adding, staff_shape}
use Rattle.dh_tables.specs.OwnerTable.{owner_adding, owner_shape}
use Rattle.dh_tables.specs.PropertyTable.{property_adding, property_shape}
use Rattle.dh_tables.specs.ClientTable.{client_adding, client_shape}
use Rattle.dh_tables.specs.RegistrationTable.{registration_adding, registration_shape}
use Rattle.dh_tables.specs.ViewingTable.{viewing_adding, viewing_shape}
use Rattle.dh_tables.specs.InspectionTable.{inspection_adding, inspection_shape}
use Rattle.dh_tables.specs.LeaseTable.{lease_adding, lease_shape}
use Rattle.dh_tables.specs.ChargeTable.{charge_adding, charge_shape}
use Rattle.dh_tables.specs.ReceiptTable.{receipt_adding, receipt_shape}
use Rattle.dh_tables.specs.RunTable.{run_adding, run_shape}
use Rattle.dh_tables.specs.PartTable.{part_adding, part_shape}
use Rattle.dh_tables.specs.BranchFeeTable.{branch_fee_adding, branch_fee_shape}
use Rattle.dh_tables.specs.PartFeeTable.{part_fee_adding, part_fee_shape}
use Rattle.dh_tables.specs.EndingTable.{ending_adding, ending_shape}

-- Its shape, and the text that adds a row at its place.
pub record TableEntry (K X : Type 0) : Type 0 where
  pub shape : Shape K X
  pub adding : Adding X

abbrev pub entry_of_table : (kind : Kind) → TableEntry (key_of kind) (record_of kind)
entry_of_table Branches = record { shape = branch_shape; adding = branch_adding }
entry_of_table Staff = record { shape = staff_shape; adding = staff_adding }
entry_of_table Owners = record { shape = owner_shape; adding = owner_adding }
entry_of_table Properties = record { shape = property_shape; adding = property_adding }
entry_of_table Clients = record { shape = client_shape; adding = client_adding }
entry_of_table Registrations = record { shape = registration_shape; adding = registration_adding }
entry_of_table Viewings = record { shape = viewing_shape; adding = viewing_adding }
entry_of_table Inspections = record { shape = inspection_shape; adding = inspection_adding }
entry_of_table Leases = record { shape = lease_shape; adding = lease_adding }
entry_of_table Charges = record { shape = charge_shape; adding = charge_adding }
entry_of_table Receipts = record { shape = receipt_shape; adding = receipt_adding }
entry_of_table Runs = record { shape = run_shape; adding = run_adding }
entry_of_table Parts = record { shape = part_shape; adding = part_adding }
entry_of_table BranchFees = record { shape = branch_fee_shape; adding = branch_fee_adding }
entry_of_table PartFees = record { shape = part_fee_shape; adding = part_fee_adding }
entry_of_table Endings = record { shape = ending_shape; adding = ending_adding }

abbrev pub shape_of : (kind : Kind) → Shape (key_of kind) (record_of kind)
shape_of kind = (entry_of_table kind).shape

-- the place of the table among those of a schema, and the table
abbrev pub place_of : Kind → ℕ
place_of kind = (entry_of_table kind).adding.place

abbrev pub table_of : Kind → Table
table_of kind = (entry_of_table kind).adding.table

-- How a kind of record stands in its table and in the books.
pub record Stored : Type 1 where
  pub Key : Type 0
  pub Row : Type 0
  pub order : Key → Key → Ordering
  pub since : Version
  pub shape : Shape Key Row
  pub accessor : Accessor Key Row order

abbrev pub stored : Kind → Stored
stored kind = record {
  Key = key_of kind;
  Row = record_of kind;
  order = order_of kind;
  since = came_with kind;
  shape = shape_of kind;
  accessor = accessor_of kind;
}

-- It is how this kind does: what holds of each kind, and of each record and key of its, holds of it.
pub record IsKind (it : Stored) : Type 1 where
  pub kind : Kind
  pub as_row : it.Row → record_of kind
  pub of_row : record_of kind → it.Row
  pub as_key : it.Key → key_of kind
  pub by_kind : (P : (other : Stored) → (other.Row → record_of kind) → (record_of kind → other.Row) → (other.Key → key_of kind) → Type 0)
      → P (stored kind) (λ row. row) (λ row. row) (λ key. key) → P it as_row of_row as_key

abbrev pub itself : (kind : Kind) → IsKind (stored kind)
itself kind = record { kind = kind; as_row = λ row. row; of_row = λ row. row; as_key = λ key. key; by_kind = λ P is. is }

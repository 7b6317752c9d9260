-- What each text means: the table or index that it makes, or the index that it takes away, between the schema before it and the one behind it.
use Rattle.std.specs.Prelude.{◌≡◌, ℕ, List, slice_get, false, Ok, Some}
use Rattle.std.proofs.Common.{refl}
use Rattle.sqlite_resolve.specs.Compile.{table_defined_by, index_defined_by}
use Rattle.sqlite_schema.specs.declared.schema.Table.{Table}
use Rattle.sqlite_schema.specs.declared.schema.Index.{Index}
use Rattle.sqlite_schema.specs.declared.schema.Schema.{Schema}
use Rattle.sqlite_schema.specs.declared.command.Command.TheVariants.{CreateTable, CreateIndex, DropIndex}
use Rattle.sqlite_catalog.specs.Change.{created, indexed, without_index}
use Rattle.sqlite_tied.specs.Compute.{everything}
use Rattle.sqlite.specs.Does.{lacks_sequence}
use Rattle.sqlite.specs.Listing.{understood}
use Rattle.sqlite.proofs.Callers.{IsPlain, command_of, statement_of}
use Rattle.dh_ddl.specs.declared.texts.TheConstants.{META, BRANCH, STAFF, OWNER, PROPERTY, CLIENT, REGISTRATION, VIEWING, INSPECTION, LEASE, CHARGE}
use Rattle.dh_ddl.specs.declared.texts.TheConstants.{RECEIPT, RUN, PART, BRANCH_FEE, PART_FEE, ENDING, PROPERTY_STAFF, DROP_PROPERTY_STAFF}
use Rattle.dh_ddl.specs.declared.texts.TheConstants.{PROPERTY_OWNER, PROPERTY_BRANCH, LEASE_PROPERTY, DROP_LEASE_PROPERTY, LEASE_CLIENT}
use Rattle.dh_ddl.specs.declared.texts.TheConstants.{DROP_LEASE_CLIENT, CHARGE_MONTH, DROP_CHARGE_MONTH, RECEIPT_LEASE, DROP_RECEIPT_LEASE}
use Rattle.dh_ddl.specs.declared.texts.TheConstants.{VIEWING_PROPERTY, DROP_VIEWING_PROPERTY}
use Rattle.dh_ddl.specs.MetaTable.{meta}
use Rattle.dh_ddl.specs.BranchTable.{branch}
use Rattle.dh_ddl.specs.StaffTable.{staff}
use Rattle.dh_ddl.specs.OwnerTable.{owner}
use Rattle.dh_ddl.specs.PropertyTable.{property}
use Rattle.dh_ddl.specs.ClientTable.{client}
use Rattle.dh_ddl.specs.RegistrationTable.{registration}
use Rattle.dh_ddl.specs.ViewingTable.{viewing}
use Rattle.dh_ddl.specs.InspectionTable.{inspection}
use Rattle.dh_ddl.specs.LeaseTable.{lease}
use Rattle.dh_ddl.specs.ChargeTable.{charge}
use Rattle.dh_ddl.specs.ReceiptTable.{receipt}
use Rattle.dh_ddl.specs.RunTable.{run}
use Rattle.dh_ddl.specs.PartTable.{part}
use Rattle.dh_ddl.specs.BranchFeeTable.{branch_fee}
use Rattle.dh_ddl.specs.PartFeeTable.{part_fee}
use Rattle.dh_ddl.specs.EndingTable.{ending}
use Rattle.dh_ddl.specs.LookIndexes.{property_staff, property_owner, property_branch, lease_property, lease_client, charge_month, receipt_lease}
use Rattle.dh_ddl.specs.LookIndexes.{viewing_property}
use Rattle.dh_ddl.specs.Layout.{first, second, no_schema, first_schema, our_schema}
use Rattle.dh_ddl.specs.Meanings.{DropsIndex, MakesIndex, MakesTable}

table_made : (text : List ℕ) (before after : Schema) (table : Table) → command_of (understood before text) ≡ CreateTable
    → statement_of text (understood before text) ≡ text → table_defined_by text ≡ Ok table → IsPlain (understood before text)
    → created before table ≡ after → lacks_sequence after ≡ false → MakesTable text before after
table_made text before after made command whole defines plain grows uncounted =
    record { table = made; command = command; whole = whole; defines = defines; plain = plain; grows = grows; uncounted = uncounted }

index_made : (text : List ℕ) (before after : Schema) (at : ℕ) (table : Table) (index : Index) → command_of (understood before text) ≡ CreateIndex at
    → statement_of text (understood before text) ≡ text → IsPlain (understood before text) → slice_get before.tables at ≡ Some table
    → index_defined_by table text ≡ Ok index → indexed before table index ≡ after → MakesIndex text before after
index_made text before after place of made command whole plain listed defines grows = record {
  at = place;
  table = of;
  index = made;
  command = command;
  whole = whole;
  plain = plain;
  listed = listed;
  defines = defines;
  grows = grows;
}

index_dropped : (text : List ℕ) (before after : Schema) (at : ℕ) (index : Index) → command_of (understood before text) ≡ DropIndex at
    → statement_of text (understood before text) ≡ text → IsPlain (understood before text) → slice_get before.indexes at ≡ Some index
    → without_index before index.tree ≡ after → DropsIndex text before after
index_dropped text before after place gone command whole plain listed leaves =
    record { at = place; index = gone; command = command; whole = whole; plain = plain; listed = listed; leaves = leaves }

-- ---- tables

pub meta_is : MakesTable META.now no_schema (first 1 0)
unfolding understood everything
meta_is = table_made META.now no_schema (first 1 0) (record meta { tree = 0 }) refl refl refl (refl, refl) refl refl

pub branch_is : MakesTable BRANCH.now (first 1 0) (first 2 1)
unfolding understood everything
branch_is = table_made BRANCH.now (first 1 0) (first 2 1) (record branch { tree = 0 }) refl refl refl (refl, refl) refl refl

pub staff_is : MakesTable STAFF.now (first 2 1) (first 3 2)
unfolding understood everything
staff_is = table_made STAFF.now (first 2 1) (first 3 2) (record staff { tree = 0 }) refl refl refl (refl, refl) refl refl

pub owner_is : MakesTable OWNER.now (first 3 2) (first 4 3)
unfolding understood everything
owner_is = table_made OWNER.now (first 3 2) (first 4 3) (record owner { tree = 0 }) refl refl refl (refl, refl) refl refl

pub property_is : MakesTable PROPERTY.now (first 4 3) (first 5 4)
unfolding understood everything
property_is = table_made PROPERTY.now (first 4 3) (first 5 4) (record property { tree = 0 }) refl refl refl (refl, refl) refl refl

pub client_is : MakesTable CLIENT.now (first 5 4) (first 6 5)
unfolding understood everything
client_is = table_made CLIENT.now (first 5 4) (first 6 5) (record client { tree = 0 }) refl refl refl (refl, refl) refl refl

pub registration_is : MakesTable REGISTRATION.now (first 6 5) (first 7 6)
unfolding understood everything
registration_is = table_made REGISTRATION.now (first 6 5) (first 7 6) (record registration { tree = 0 }) refl refl refl (refl, refl) refl refl

pub viewing_is : MakesTable VIEWING.now (first 7 6) (first 8 7)
unfolding understood everything
viewing_is = table_made VIEWING.now (first 7 6) (first 8 7) (record viewing { tree = 0 }) refl refl refl (refl, refl) refl refl

pub inspection_is : MakesTable INSPECTION.now (first 8 7) (first 9 8)
unfolding understood everything
inspection_is = table_made INSPECTION.now (first 8 7) (first 9 8) (record inspection { tree = 0 }) refl refl refl (refl, refl) refl refl

pub lease_is : MakesTable LEASE.now (first 9 8) (first 10 8)
unfolding understood everything
lease_is = table_made LEASE.now (first 9 8) (first 10 8) (record lease { tree = 0 }) refl refl refl (refl, refl) refl refl

pub charge_is : MakesTable CHARGE.now (first 10 8) (first 11 9)
unfolding understood everything
charge_is = table_made CHARGE.now (first 10 8) (first 11 9) (record charge { tree = 0 }) refl refl refl (refl, refl) refl refl

pub receipt_is : MakesTable RECEIPT.now (first 11 9) (first 12 10)
unfolding understood everything
receipt_is = table_made RECEIPT.now (first 11 9) (first 12 10) (record receipt { tree = 0 }) refl refl refl (refl, refl) refl refl

pub run_is : MakesTable RUN.now (first 12 10) (first 13 11)
unfolding understood everything
run_is = table_made RUN.now (first 12 10) (first 13 11) (record run { tree = 0 }) refl refl refl (refl, refl) refl refl

pub part_is : MakesTable PART.now (first 13 11) (first 14 12)
unfolding understood everything
part_is = table_made PART.now (first 13 11) (first 14 12) (record part { tree = 0 }) refl refl refl (refl, refl) refl refl

pub branch_fee_is : MakesTable BRANCH_FEE.now (first 14 12) (second 15 13)
unfolding understood everything
branch_fee_is = table_made BRANCH_FEE.now (first 14 12) (second 15 13) (record branch_fee { tree = 0 }) refl refl refl (refl, refl) refl refl

pub part_fee_is : MakesTable PART_FEE.now (second 15 13) (second 16 14)
unfolding understood everything
part_fee_is = table_made PART_FEE.now (second 15 13) (second 16 14) (record part_fee { tree = 0 }) refl refl refl (refl, refl) refl refl

pub ending_is : MakesTable ENDING.now (second 16 14) (second 17 14)
unfolding understood everything
ending_is = table_made ENDING.now (second 16 14) (second 17 14) (record ending { tree = 0 }) refl refl refl (refl, refl) refl refl

-- ---- indexes, of the first version and, behind the later tables, of the second

pub property_staff_is : MakesIndex PROPERTY_STAFF.now (first 14 12) (first 14 13)
unfolding understood index_defined_by everything
property_staff_is = index_made PROPERTY_STAFF.now (first 14 12) (first 14 13) 4 property (property_staff 0) refl refl (refl, refl) refl refl refl

pub lease_property_is : MakesIndex LEASE_PROPERTY.now (first 14 13) (first 14 14)
unfolding understood index_defined_by everything
lease_property_is = index_made LEASE_PROPERTY.now (first 14 13) (first 14 14) 9 lease (lease_property 0) refl refl (refl, refl) refl refl refl

pub lease_client_is : MakesIndex LEASE_CLIENT.now (first 14 14) (first 14 15)
unfolding understood index_defined_by everything
lease_client_is = index_made LEASE_CLIENT.now (first 14 14) (first 14 15) 9 lease (lease_client 0) refl refl (refl, refl) refl refl refl

pub charge_month_is : MakesIndex CHARGE_MONTH.now (first 14 15) (first 14 16)
unfolding understood index_defined_by everything
charge_month_is = index_made CHARGE_MONTH.now (first 14 15) (first 14 16) 10 charge (charge_month 0) refl refl (refl, refl) refl refl refl

pub receipt_lease_is : MakesIndex RECEIPT_LEASE.now (first 14 16) (first 14 17)
unfolding understood index_defined_by everything
receipt_lease_is = index_made RECEIPT_LEASE.now (first 14 16) (first 14 17) 11 receipt (receipt_lease 0) refl refl (refl, refl) refl refl refl

pub viewing_property_is : MakesIndex VIEWING_PROPERTY.now (first 14 17) first_schema
unfolding understood index_defined_by everything
viewing_property_is = index_made VIEWING_PROPERTY.now (first 14 17) first_schema 7 viewing (viewing_property 0) refl refl (refl, refl) refl refl refl

pub later_property_staff_is : MakesIndex PROPERTY_STAFF.now (second 17 14) (second 17 15)
unfolding understood index_defined_by everything
later_property_staff_is = index_made PROPERTY_STAFF.now (second 17 14) (second 17 15) 4 property (property_staff 0) refl refl (refl, refl) refl refl refl

pub later_property_owner_is : MakesIndex PROPERTY_OWNER.now (second 17 15) (second 17 16)
unfolding understood index_defined_by everything
later_property_owner_is = index_made PROPERTY_OWNER.now (second 17 15) (second 17 16) 4 property (property_owner 0) refl refl (refl, refl) refl refl refl

pub later_property_branch_is : MakesIndex PROPERTY_BRANCH.now (second 17 16) (second 17 17)
unfolding understood index_defined_by everything
later_property_branch_is = index_made PROPERTY_BRANCH.now (second 17 16) (second 17 17) 4 property (property_branch 0) refl refl (refl, refl) refl refl refl

pub later_lease_property_is : MakesIndex LEASE_PROPERTY.now (second 17 17) (second 17 18)
unfolding understood index_defined_by everything
later_lease_property_is = index_made LEASE_PROPERTY.now (second 17 17) (second 17 18) 9 lease (lease_property 0) refl refl (refl, refl) refl refl refl

pub later_lease_client_is : MakesIndex LEASE_CLIENT.now (second 17 18) (second 17 19)
unfolding understood index_defined_by everything
later_lease_client_is = index_made LEASE_CLIENT.now (second 17 18) (second 17 19) 9 lease (lease_client 0) refl refl (refl, refl) refl refl refl

pub later_receipt_lease_is : MakesIndex RECEIPT_LEASE.now (second 17 19) (second 17 20)
unfolding understood index_defined_by everything
later_receipt_lease_is = index_made RECEIPT_LEASE.now (second 17 19) (second 17 20) 11 receipt (receipt_lease 0) refl refl (refl, refl) refl refl refl

pub later_viewing_property_is : MakesIndex VIEWING_PROPERTY.now (second 17 20) our_schema
unfolding understood index_defined_by everything
later_viewing_property_is = index_made VIEWING_PROPERTY.now (second 17 20) our_schema 7 viewing (viewing_property 0) refl refl (refl, refl) refl refl refl

-- ---- what takes the first version's away

pub property_staff_goes : DropsIndex DROP_PROPERTY_STAFF.now (first 14 13) (first 14 12)
unfolding understood everything
property_staff_goes = index_dropped DROP_PROPERTY_STAFF.now (first 14 13) (first 14 12) 12 (property_staff 26) refl refl (refl, refl) refl refl

pub lease_property_goes : DropsIndex DROP_LEASE_PROPERTY.now (first 14 14) (first 14 13)
unfolding understood everything
lease_property_goes = index_dropped DROP_LEASE_PROPERTY.now (first 14 14) (first 14 13) 13 (lease_property 27) refl refl (refl, refl) refl refl

pub lease_client_goes : DropsIndex DROP_LEASE_CLIENT.now (first 14 15) (first 14 14)
unfolding understood everything
lease_client_goes = index_dropped DROP_LEASE_CLIENT.now (first 14 15) (first 14 14) 14 (lease_client 28) refl refl (refl, refl) refl refl

pub charge_month_goes : DropsIndex DROP_CHARGE_MONTH.now (first 14 16) (first 14 15)
unfolding understood everything
charge_month_goes = index_dropped DROP_CHARGE_MONTH.now (first 14 16) (first 14 15) 15 (charge_month 29) refl refl (refl, refl) refl refl

pub receipt_lease_goes : DropsIndex DROP_RECEIPT_LEASE.now (first 14 17) (first 14 16)
unfolding understood everything
receipt_lease_goes = index_dropped DROP_RECEIPT_LEASE.now (first 14 17) (first 14 16) 16 (receipt_lease 30) refl refl (refl, refl) refl refl

pub viewing_property_goes : DropsIndex DROP_VIEWING_PROPERTY.now first_schema (first 14 17)
unfolding understood everything
viewing_property_goes = index_dropped DROP_VIEWING_PROPERTY.now first_schema (first 14 17) 17 (viewing_property 31) refl refl (refl, refl) refl refl

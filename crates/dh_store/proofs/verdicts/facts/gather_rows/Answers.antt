use Rattle.std.proofs.Common.{refl, inl, inr}
use Rattle.dh_store.proofs.verdicts.facts.gather_rows.Goals as goal

pub returns-in-Branch-clause-gathered : goal.returns-in-Branch-clause-gathered
returns-in-Branch-clause-gathered g c = rw c.in-Branch.is (λ t at. c.look.ensures.brought.first t _ at refl)

pub returns-in-Fee-clause-gathered : goal.returns-in-Fee-clause-gathered
returns-in-Fee-clause-gathered g c = rw c.in-Fee.is c.at_fee.ensures.gathered

pub returns-in-Staff-clause-gathered : goal.returns-in-Staff-clause-gathered
returns-in-Staff-clause-gathered g c = rw c.in-Staff.is c.at_staff.ensures.gathered

pub returns-in-Owner-clause-gathered : goal.returns-in-Owner-clause-gathered
returns-in-Owner-clause-gathered g c = rw c.in-Owner.is (λ t at. c.look-in-Owner.ensures.brought.first t _ at refl)

pub returns-in-Property-clause-gathered : goal.returns-in-Property-clause-gathered
returns-in-Property-clause-gathered g c = rw c.in-Property.is c.at_property.ensures.gathered

pub returns-in-Assign-clause-gathered : goal.returns-in-Assign-clause-gathered
returns-in-Assign-clause-gathered g c = rw c.in-Assign.is (λ t at. c.managed.ensures.gathered t _ at refl refl)

pub returns-in-Rent-clause-gathered : goal.returns-in-Rent-clause-gathered
returns-in-Rent-clause-gathered g c = rw c.in-Rent.is (λ t at. c.look-in-Rent.ensures.brought.first t _ at refl)

pub returns-in-Client-clause-gathered : goal.returns-in-Client-clause-gathered
returns-in-Client-clause-gathered g c = rw c.in-Client.is (λ t at. c.look-in-Client.ensures.brought.first t _ at refl)

pub returns-in-Register-clause-gathered : goal.returns-in-Register-clause-gathered
returns-in-Register-clause-gathered g c = rw c.in-Register.is c.at_register.ensures.gathered

pub returns-in-Viewing-clause-gathered : goal.returns-in-Viewing-clause-gathered
returns-in-Viewing-clause-gathered g c = rw c.in-Viewing.is c.at_viewing.ensures.gathered

pub returns-in-Comment-clause-gathered : goal.returns-in-Comment-clause-gathered
returns-in-Comment-clause-gathered g c = rw c.in-Comment.is (λ t at. c.look-in-Comment.ensures.brought.first t _ at refl)

pub returns-in-Inspection-clause-gathered : goal.returns-in-Inspection-clause-gathered
returns-in-Inspection-clause-gathered g c = rw c.in-Inspection.is c.at_inspection.ensures.gathered

pub returns-in-Lease-clause-gathered : goal.returns-in-Lease-clause-gathered
returns-in-Lease-clause-gathered g c = rw c.in-Lease.is c.at_lease.ensures.gathered

pub returns-in-End-clause-gathered : goal.returns-in-End-clause-gathered
returns-in-End-clause-gathered g c = rw c.in-End.is c.at_end.ensures.gathered

pub returns-in-Receipt-clause-gathered : goal.returns-in-Receipt-clause-gathered
returns-in-Receipt-clause-gathered g c = rw c.in-Receipt.is c.at_receipt.ensures.gathered

pub returns-in-Run-clause-gathered : goal.returns-in-Run-clause-gathered
returns-in-Run-clause-gathered g c =
    elim c.in-Run.is [ inl run ↦ rw run c.at_run.ensures.gathered | inr opening ↦ rw opening c.at_run.ensures.gathered ]

use Rattle.dh_types.proofs.SameRecords.{same_branch, same_staff, same_owner, same_property, same_client, same_registration, same_viewing}
use Rattle.dh_types.proofs.SameRecords.{same_inspection, same_lease_terms, same_lease, same_charge, same_payment, same_receipt, same_run, same_part}
use Rattle.dh_types.proofs.laws.same_records_are_equal.Goals as goal

pub returns-clause-branch : goal.returns-clause-branch
returns-clause-branch c = same_branch

pub returns-clause-staff : goal.returns-clause-staff
returns-clause-staff c = same_staff

pub returns-clause-owner : goal.returns-clause-owner
returns-clause-owner c = same_owner

pub returns-clause-property : goal.returns-clause-property
returns-clause-property c = same_property

pub returns-clause-client : goal.returns-clause-client
returns-clause-client c = same_client

pub returns-clause-registration : goal.returns-clause-registration
returns-clause-registration c = same_registration

pub returns-clause-viewing : goal.returns-clause-viewing
returns-clause-viewing c = same_viewing

pub returns-clause-inspection : goal.returns-clause-inspection
returns-clause-inspection c = same_inspection

pub returns-clause-lease_terms : goal.returns-clause-lease_terms
returns-clause-lease_terms c = same_lease_terms

pub returns-clause-lease : goal.returns-clause-lease
returns-clause-lease c = same_lease

pub returns-clause-charge : goal.returns-clause-charge
returns-clause-charge c = same_charge

pub returns-clause-payment : goal.returns-clause-payment
returns-clause-payment c = same_payment

pub returns-clause-receipt : goal.returns-clause-receipt
returns-clause-receipt c = same_receipt

pub returns-clause-run : goal.returns-clause-run
returns-clause-run c = same_run

pub returns-clause-part : goal.returns-clause-part
returns-clause-part c = same_part

-- The fields that refusals name: each is the one from which its form reads that part.
use Rattle.std.specs.Prelude.{◌≡◌, ℕ}
use Rattle.dh_types.specs.declared.command.Command.TheVariants as command
use Rattle.dh_types.specs.declared.question.Question.TheVariants as question
use Rattle.dh_types.specs.declared.field.TheConstants as place
use Rattle.dh_fields.specs.FieldKinds.{FieldKind, id, lease_no, optional}
use Rattle.dh_fields.specs.Lines.{Fields, Form, field}
use Rattle.dh_fields.specs.Lines as line

-- fields of this form are one of these, whose part was read from field n as this kind
abbrev pub IsReadFrom : {T X P : Type 0} → Form T → (X → T) → (X → P) → FieldKind P → ℕ → Type 0
IsReadFrom {X = X} form made part kind n = (fields : Fields) → (it : X) × (form.value fields ≡ made it) × (part it ≡ kind.value (field fields n))

-- ---- a branch's fee

abbrev pub FeeBranch : Type 0
FeeBranch = IsReadFrom line.fee_form command.Fee (λ it. it.branch) id place.FEE_BRANCH

-- ---- a new member of staff

abbrev pub StaffBranch : Type 0
StaffBranch = IsReadFrom line.staff_form command.Staff (λ it. it.branch) id place.STAFF_BRANCH

-- ---- a new property

abbrev pub PropertyOwner : Type 0
PropertyOwner = IsReadFrom line.property_form command.Property (λ it. it.owner) id place.PROPERTY_OWNER

abbrev pub PropertyStaff : Type 0
PropertyStaff = IsReadFrom line.property_form command.Property (λ it. it.staff) (optional id) place.PROPERTY_STAFF

abbrev pub PropertyBranch : Type 0
PropertyBranch = IsReadFrom line.property_form command.Property (λ it. it.branch) id place.PROPERTY_BRANCH

-- ---- a property's new manager

abbrev pub AssignedProperty : Type 0
AssignedProperty = IsReadFrom line.assign_form command.Assign (λ it. it.property) id place.CHANGED_PROPERTY

abbrev pub AssignedStaff : Type 0
AssignedStaff = IsReadFrom line.assign_form command.Assign (λ it. it.staff) (optional id) place.ASSIGNED_STAFF

-- ---- a property's new rent

abbrev pub RentProperty : Type 0
RentProperty = IsReadFrom line.rent_form command.Rent (λ it. it.property) id place.CHANGED_PROPERTY

-- ---- a registration

abbrev pub RegisteredClient : Type 0
RegisteredClient = IsReadFrom line.register_form command.Register (λ it. it.client) id place.REGISTERED_CLIENT

abbrev pub RegisteredBranch : Type 0
RegisteredBranch = IsReadFrom line.register_form command.Register (λ it. it.branch) id place.REGISTERED_BRANCH

abbrev pub RegisteredStaff : Type 0
RegisteredStaff = IsReadFrom line.register_form command.Register (λ it. it.staff) id place.REGISTERED_STAFF

-- ---- a viewing

abbrev pub ViewingClient : Type 0
ViewingClient = IsReadFrom line.viewing_form command.Viewing (λ it. it.client) id place.VIEWING_CLIENT

abbrev pub ViewingProperty : Type 0
ViewingProperty = IsReadFrom line.viewing_form command.Viewing (λ it. it.property) id place.VIEWING_PROPERTY

-- ---- the comment of a viewing

abbrev pub CommentClient : Type 0
CommentClient = IsReadFrom line.comment_form command.Comment (λ it. it.client) id place.VIEWING_CLIENT

-- ---- an inspection

abbrev pub InspectedProperty : Type 0
InspectedProperty = IsReadFrom line.inspection_form command.Inspection (λ it. it.property) id place.INSPECTED_PROPERTY

abbrev pub InspectionStaff : Type 0
InspectionStaff = IsReadFrom line.inspection_form command.Inspection (λ it. it.staff) id place.INSPECTION_STAFF

-- ---- a new lease

abbrev pub LeaseClient : Type 0
LeaseClient = IsReadFrom line.lease_form command.Lease (λ it. it.client) id place.LEASE_CLIENT

abbrev pub LeaseProperty : Type 0
LeaseProperty = IsReadFrom line.lease_form command.Lease (λ it. it.property) id place.LEASE_PROPERTY

-- ---- the end of a lease

abbrev pub EndedLease : Type 0
EndedLease = IsReadFrom line.end_form command.End (λ it. it.lease) lease_no place.ENDED_LEASE

-- ---- a receipt

abbrev pub ReceiptLease : Type 0
ReceiptLease = IsReadFrom line.receipt_form command.Receipt (λ it. it.payment.lease) lease_no place.RECEIPT_LEASE

-- ---- what a question is about

abbrev pub AskedClient : Type 0
AskedClient = IsReadFrom line.matching_form question.Matching (λ it. it.client) id place.ASKED_ABOUT

abbrev pub AskedLease : Type 0
AskedLease = IsReadFrom line.statement_form question.Statement (λ it. it) lease_no place.ASKED_ABOUT

abbrev pub AskedBranch : Type 0
AskedBranch = IsReadFrom line.arrears_form question.Arrears (λ it. it) id place.ASKED_ABOUT

abbrev pub AskedOwner : Type 0
AskedOwner = IsReadFrom line.owner_month_form question.Owner (λ it. it.owner) id place.ASKED_ABOUT

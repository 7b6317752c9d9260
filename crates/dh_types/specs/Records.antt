-- When two records are the same: all their fields are.
use Rattle.std.specs.Prelude.{Bool, true, false, ◌&&◌, nat_eq, Option, Some, None}
use Rattle.std.specs.Cmp.Lexicographic.{pointwise}
use Rattle.dh_values.specs.declared.property_type.PropertyType.{PropertyType}
use Rattle.dh_values.specs.declared.property_type.PropertyType.TheVariants as property_type
use Rattle.dh_values.specs.declared.position.Position.{Position}
use Rattle.dh_values.specs.declared.position.Position.TheVariants as position
use Rattle.dh_values.specs.declared.payment_method.PaymentMethod.{PaymentMethod}
use Rattle.dh_values.specs.declared.payment_method.PaymentMethod.TheVariants as payment_method
use Rattle.dh_values.specs.declared.receipt_kind.ReceiptKind.{ReceiptKind}
use Rattle.dh_values.specs.declared.receipt_kind.ReceiptKind.TheVariants as receipt_kind
use Rattle.dh_types.specs.declared.branch.Branch.{Branch}
use Rattle.dh_types.specs.declared.staff.Staff.{Staff}
use Rattle.dh_types.specs.declared.owner.Owner.{Owner}
use Rattle.dh_types.specs.declared.property.Property.{Property}
use Rattle.dh_types.specs.declared.client.Client.{Client}
use Rattle.dh_types.specs.declared.client.Registration.{Registration}
use Rattle.dh_types.specs.declared.viewing.Viewing.{Viewing}
use Rattle.dh_types.specs.declared.viewing.Inspection.{Inspection}
use Rattle.dh_types.specs.declared.lease.LeaseTerms.{LeaseTerms}
use Rattle.dh_types.specs.declared.lease.Lease.{Lease}
use Rattle.dh_types.specs.declared.lease.Charge.{Charge}
use Rattle.dh_types.specs.declared.lease.Payment.{Payment}
use Rattle.dh_types.specs.declared.lease.Receipt.{Receipt}
use Rattle.dh_types.specs.declared.run.Run.{Run}
use Rattle.dh_types.specs.declared.run.Part.{Part}

abbrev pub is_same_flag : Bool → Bool → Bool
is_same_flag true true = true
is_same_flag false false = true
is_same_flag _ _ = false

-- both are absent, or both are there and the same
abbrev pub is_same_optional : {T : Type 0} → (T → T → Bool) → Option T → Option T → Bool
is_same_optional is_same None None = true
is_same_optional is_same (Some a) (Some b) = is_same a b
is_same_optional is_same _ _ = false

abbrev pub is_same_property_type : PropertyType → PropertyType → Bool
is_same_property_type property_type.House property_type.House = true
is_same_property_type property_type.Flat property_type.Flat = true
is_same_property_type _ _ = false

abbrev pub is_same_position : Position → Position → Bool
is_same_position position.Manager position.Manager = true
is_same_position position.Supervisor position.Supervisor = true
is_same_position position.Assistant position.Assistant = true
is_same_position _ _ = false

abbrev pub is_same_payment_method : PaymentMethod → PaymentMethod → Bool
is_same_payment_method payment_method.Cash payment_method.Cash = true
is_same_payment_method payment_method.Cheque payment_method.Cheque = true
is_same_payment_method payment_method.Card payment_method.Card = true
is_same_payment_method payment_method.Transfer payment_method.Transfer = true
is_same_payment_method _ _ = false

abbrev pub is_same_receipt_kind : ReceiptKind → ReceiptKind → Bool
is_same_receipt_kind receipt_kind.Rent receipt_kind.Rent = true
is_same_receipt_kind receipt_kind.Deposit receipt_kind.Deposit = true
is_same_receipt_kind _ _ = false

abbrev pub is_same_branch : Branch → Branch → Bool
is_same_branch a b = pointwise nat_eq a.number b.number && pointwise nat_eq a.street b.street
    && pointwise nat_eq a.city b.city && pointwise nat_eq a.postcode b.postcode

abbrev pub is_same_staff : Staff → Staff → Bool
is_same_staff a b = pointwise nat_eq a.number b.number && pointwise nat_eq a.name b.name
    && is_same_position a.position b.position && pointwise nat_eq a.branch b.branch

abbrev pub is_same_owner : Owner → Owner → Bool
is_same_owner a b = pointwise nat_eq a.number b.number && pointwise nat_eq a.name b.name
    && pointwise nat_eq a.address b.address && pointwise nat_eq a.telephone b.telephone

abbrev pub is_same_property : Property → Property → Bool
is_same_property a b = pointwise nat_eq a.number b.number && pointwise nat_eq a.street b.street && pointwise nat_eq a.city b.city
    && pointwise nat_eq a.postcode b.postcode && is_same_property_type a.property_type b.property_type
    && nat_eq a.rooms b.rooms && nat_eq a.rent b.rent && pointwise nat_eq a.owner b.owner && is_same_optional (pointwise nat_eq) a.staff b.staff
    && pointwise nat_eq a.branch b.branch

abbrev pub is_same_client : Client → Client → Bool
is_same_client a b = pointwise nat_eq a.number b.number && pointwise nat_eq a.name b.name && pointwise nat_eq a.telephone b.telephone
    && is_same_property_type a.preferred_type b.preferred_type && nat_eq a.greatest_rent b.greatest_rent

abbrev pub is_same_registration : Registration → Registration → Bool
is_same_registration a b = pointwise nat_eq a.client b.client && pointwise nat_eq a.branch b.branch
    && pointwise nat_eq a.staff b.staff && nat_eq a.day b.day

abbrev pub is_same_viewing : Viewing → Viewing → Bool
is_same_viewing a b = pointwise nat_eq a.client b.client && pointwise nat_eq a.property b.property
    && nat_eq a.day b.day && is_same_optional (pointwise nat_eq) a.comment b.comment

abbrev pub is_same_inspection : Inspection → Inspection → Bool
is_same_inspection a b = pointwise nat_eq a.property b.property && nat_eq a.day b.day
    && pointwise nat_eq a.staff b.staff && pointwise nat_eq a.comment b.comment

abbrev pub is_same_lease_terms : LeaseTerms → LeaseTerms → Bool
is_same_lease_terms a b = nat_eq a.number b.number && pointwise nat_eq a.client b.client && pointwise nat_eq a.property b.property
    && nat_eq a.start b.start && nat_eq a.months b.months && is_same_payment_method a.method b.method

abbrev pub is_same_lease : Lease → Lease → Bool
is_same_lease a b = is_same_lease_terms a.terms b.terms && nat_eq a.rent b.rent

abbrev pub is_same_charge : Charge → Charge → Bool
is_same_charge a b = nat_eq a.lease b.lease && nat_eq a.index b.index && nat_eq a.month b.month && nat_eq a.day b.day && nat_eq a.amount b.amount

abbrev pub is_same_payment : Payment → Payment → Bool
is_same_payment a b = nat_eq a.lease b.lease && is_same_receipt_kind a.kind b.kind && nat_eq a.amount b.amount && nat_eq a.day b.day

abbrev pub is_same_receipt : Receipt → Receipt → Bool
is_same_receipt a b = nat_eq a.number b.number && pointwise nat_eq a.key b.key && is_same_payment a.payment b.payment

abbrev pub is_same_run : Run → Run → Bool
is_same_run a b = nat_eq a.month b.month && pointwise nat_eq a.key b.key && nat_eq a.count b.count
    && nat_eq a.total b.total && is_same_flag a.is_closed b.is_closed

abbrev pub is_same_part : Part → Part → Bool
is_same_part a b = nat_eq a.month b.month && pointwise nat_eq a.branch b.branch && is_same_optional nat_eq a.through b.through
    && nat_eq a.count b.count && nat_eq a.total b.total

-- The books as one value: what a model of them is coded by.
use Rattle.std.specs.Prelude.{ℕ, Bool, true, false, List, Option, refl, ◌≡◌}
use Rattle.std.specs.Coded.{Coded, code_by, coded×, coded_ℕ, coded_bool, coded_list, coded_option}
use Rattle.std.specs.FinMap as fin
use Rattle.std.specs.FinMap.{FinMap}
use Rattle.std.specs.Ordering.{nat_cmp}
use Rattle.dh_values.specs.declared.property_type.PropertyType.{PropertyType}
use Rattle.dh_values.specs.declared.property_type.PropertyType.TheVariants as property_type
use Rattle.dh_values.specs.declared.position.Position.{Position}
use Rattle.dh_values.specs.declared.position.Position.TheVariants as position
use Rattle.dh_values.specs.declared.payment_method.PaymentMethod.{PaymentMethod}
use Rattle.dh_values.specs.declared.payment_method.PaymentMethod.TheVariants as payment_method
use Rattle.dh_values.specs.declared.receipt_kind.ReceiptKind.{ReceiptKind}
use Rattle.dh_values.specs.declared.receipt_kind.ReceiptKind.TheVariants as receipt_kind
use Rattle.dh_types.specs.declared.branch.Branch.{Branch}
use Rattle.dh_types.specs.declared.staff.Staff.{Staff}
use Rattle.dh_types.specs.declared.owner.Owner.{Owner}
use Rattle.dh_types.specs.declared.property.Property.{Property}
use Rattle.dh_types.specs.declared.client.Client.{Client}
use Rattle.dh_types.specs.declared.client.Registration.{Registration}
use Rattle.dh_types.specs.declared.viewing.Viewing.{Viewing}
use Rattle.dh_types.specs.declared.viewing.Inspection.{Inspection}
use Rattle.dh_types.specs.declared.lease.LeaseTerms.{LeaseTerms}
use Rattle.dh_types.specs.declared.lease.Lease.{Lease}
use Rattle.dh_types.specs.declared.lease.Charge.{Charge}
use Rattle.dh_types.specs.declared.lease.Payment.{Payment}
use Rattle.dh_types.specs.declared.lease.Receipt.{Receipt}
use Rattle.dh_types.specs.declared.lease.Ending.{Ending}
use Rattle.dh_types.specs.declared.run.Run.{Run}
use Rattle.dh_types.specs.declared.run.Part.{Part}
use Rattle.dh_types.specs.declared.fee.BranchFee.{BranchFee}
use Rattle.dh_types.specs.declared.fee.PartFee.{PartFee}
use Rattle.dh_types.specs.declared.version.Version.{Version}
use Rattle.dh_types.specs.declared.version.Version.TheVariants.{First, Second}
use Rattle.dh_model.specs.declared.open_run.OpenRun.{OpenRun}
use Rattle.dh_model.specs.Books.{Books, State, pair_cmp, text_cmp}

abbrev pub coded_text : Coded (List ℕ)
coded_text = coded_list coded_ℕ

abbrev property_type_bits : PropertyType → Bool
property_type_bits property_type.House = true
property_type_bits property_type.Flat = false

abbrev property_type_again : Bool → PropertyType
property_type_again true = property_type.House
property_type_again false = property_type.Flat

pub property_type_back : (x : PropertyType) → property_type_again (property_type_bits x) ≡ x
property_type_back property_type.House = refl
property_type_back property_type.Flat = refl

abbrev pub property_type_code : Coded PropertyType
property_type_code = code_by Bool coded_bool property_type_bits property_type_again property_type_back

abbrev position_bits : Position → Bool × Bool
position_bits position.Manager = (true, true)
position_bits position.Supervisor = (true, false)
position_bits position.Assistant = (false, true)

abbrev position_again : Bool × Bool → Position
position_again (true, true) = position.Manager
position_again (true, false) = position.Supervisor
position_again (false, true) = position.Assistant
position_again (false, false) = position.Assistant

pub position_back : (x : Position) → position_again (position_bits x) ≡ x
position_back position.Manager = refl
position_back position.Supervisor = refl
position_back position.Assistant = refl

abbrev pub position_code : Coded Position
position_code = code_by (Bool × Bool) (coded× coded_bool coded_bool) position_bits position_again position_back

abbrev payment_method_bits : PaymentMethod → Bool × Bool
payment_method_bits payment_method.Cash = (true, true)
payment_method_bits payment_method.Cheque = (true, false)
payment_method_bits payment_method.Card = (false, true)
payment_method_bits payment_method.Transfer = (false, false)

abbrev payment_method_again : Bool × Bool → PaymentMethod
payment_method_again (true, true) = payment_method.Cash
payment_method_again (true, false) = payment_method.Cheque
payment_method_again (false, true) = payment_method.Card
payment_method_again (false, false) = payment_method.Transfer

pub payment_method_back : (x : PaymentMethod) → payment_method_again (payment_method_bits x) ≡ x
payment_method_back payment_method.Cash = refl
payment_method_back payment_method.Cheque = refl
payment_method_back payment_method.Card = refl
payment_method_back payment_method.Transfer = refl

abbrev pub payment_method_code : Coded PaymentMethod
payment_method_code = code_by (Bool × Bool) (coded× coded_bool coded_bool) payment_method_bits payment_method_again payment_method_back

abbrev receipt_kind_bits : ReceiptKind → Bool
receipt_kind_bits receipt_kind.Rent = true
receipt_kind_bits receipt_kind.Deposit = false

abbrev receipt_kind_again : Bool → ReceiptKind
receipt_kind_again true = receipt_kind.Rent
receipt_kind_again false = receipt_kind.Deposit

pub receipt_kind_back : (x : ReceiptKind) → receipt_kind_again (receipt_kind_bits x) ≡ x
receipt_kind_back receipt_kind.Rent = refl
receipt_kind_back receipt_kind.Deposit = refl

abbrev pub receipt_kind_code : Coded ReceiptKind
receipt_kind_code = code_by Bool coded_bool receipt_kind_bits receipt_kind_again receipt_kind_back

abbrev version_bits : Version → Bool
version_bits First = true
version_bits Second = false

abbrev version_again : Bool → Version
version_again true = First
version_again false = Second

pub version_back : (x : Version) → version_again (version_bits x) ≡ x
version_back First = refl
version_back Second = refl

abbrev pub version_code : Coded Version
version_code = code_by Bool coded_bool version_bits version_again version_back

abbrev pub branch_code : Coded Branch
branch_code =
    code_by (List ℕ × (List ℕ × (List ℕ × List ℕ))) (coded× coded_text (coded× coded_text (coded× coded_text coded_text)))
    (λ x. (x.number, (x.street, (x.city, x.postcode)))) (λ p. record { number = p.0; street = p.1.0; city = p.1.1.0; postcode = p.1.1.1 }) (λ _. refl)

abbrev pub staff_code : Coded Staff
staff_code =
    code_by (List ℕ × (List ℕ × (Position × List ℕ))) (coded× coded_text (coded× coded_text (coded× position_code coded_text)))
    (λ x. (x.number, (x.name, (x.position, x.branch)))) (λ p. record { number = p.0; name = p.1.0; position = p.1.1.0; branch = p.1.1.1 }) (λ _. refl)

abbrev pub owner_code : Coded Owner
owner_code =
    code_by (List ℕ × (List ℕ × (List ℕ × List ℕ))) (coded× coded_text (coded× coded_text (coded× coded_text coded_text)))
    (λ x. (x.number, (x.name, (x.address, x.telephone)))) (λ p. record { number = p.0; name = p.1.0; address = p.1.1.0; telephone = p.1.1.1 }) (λ _. refl)

abbrev pub property_code : Coded Property
property_code =
    code_by (List ℕ × (List ℕ × (List ℕ × (List ℕ × (PropertyType × (ℕ × (ℕ × (List ℕ × (Option (List ℕ) × List ℕ)))))))))
    (coded× coded_text (coded× coded_text
    (coded× coded_text (coded× coded_text
    (coded× property_type_code (coded× coded_ℕ (coded× coded_ℕ (coded× coded_text (coded× (coded_option coded_text) coded_text)))))))))
    (λ x. (x.number, (x.street, (x.city, (x.postcode, (x.property_type, (x.rooms, (x.rent, (x.owner, (x.staff, x.branch))))))))))
    (λ p. record {
      number = p.0;
      street = p.1.0;
      city = p.1.1.0;
      postcode = p.1.1.1.0;
      property_type = p.1.1.1.1.0;
      rooms = p.1.1.1.1.1.0;
      rent = p.1.1.1.1.1.1.0;
      owner = p.1.1.1.1.1.1.1.0;
      staff = p.1.1.1.1.1.1.1.1.0;
      branch = p.1.1.1.1.1.1.1.1.1;
    }) (λ _. refl)

abbrev pub client_code : Coded Client
client_code =
    code_by (List ℕ × (List ℕ × (List ℕ × (PropertyType × ℕ)))) (coded× coded_text (coded× coded_text (coded× coded_text (coded× property_type_code coded_ℕ))))
    (λ x. (x.number, (x.name, (x.telephone, (x.preferred_type, x.greatest_rent))))) (λ p. record {
      number = p.0;
      name = p.1.0;
      telephone = p.1.1.0;
      preferred_type = p.1.1.1.0;
      greatest_rent = p.1.1.1.1;
    }) (λ _. refl)

abbrev pub registration_code : Coded Registration
registration_code =
    code_by (List ℕ × (List ℕ × (List ℕ × ℕ))) (coded× coded_text (coded× coded_text (coded× coded_text coded_ℕ)))
    (λ x. (x.client, (x.branch, (x.staff, x.day)))) (λ p. record { client = p.0; branch = p.1.0; staff = p.1.1.0; day = p.1.1.1 }) (λ _. refl)

abbrev pub viewing_code : Coded Viewing
viewing_code =
    code_by (List ℕ × (List ℕ × (ℕ × Option (List ℕ)))) (coded× coded_text (coded× coded_text (coded× coded_ℕ (coded_option coded_text))))
    (λ x. (x.client, (x.property, (x.day, x.comment)))) (λ p. record { client = p.0; property = p.1.0; day = p.1.1.0; comment = p.1.1.1 }) (λ _. refl)

abbrev pub inspection_code : Coded Inspection
inspection_code =
    code_by (List ℕ × (ℕ × (List ℕ × List ℕ))) (coded× coded_text (coded× coded_ℕ (coded× coded_text coded_text)))
    (λ x. (x.property, (x.day, (x.staff, x.comment)))) (λ p. record { property = p.0; day = p.1.0; staff = p.1.1.0; comment = p.1.1.1 }) (λ _. refl)

abbrev pub lease_terms_code : Coded LeaseTerms
lease_terms_code =
    code_by (ℕ × (List ℕ × (List ℕ × (ℕ × (ℕ × PaymentMethod)))))
    (coded× coded_ℕ (coded× coded_text (coded× coded_text (coded× coded_ℕ (coded× coded_ℕ payment_method_code)))))
    (λ x. (x.number, (x.client, (x.property, (x.start, (x.months, x.method)))))) (λ p. record {
      number = p.0;
      client = p.1.0;
      property = p.1.1.0;
      start = p.1.1.1.0;
      months = p.1.1.1.1.0;
      method = p.1.1.1.1.1;
    }) (λ _. refl)

abbrev pub lease_code : Coded Lease
lease_code =
    code_by (LeaseTerms × ℕ) (coded× lease_terms_code coded_ℕ)
    (λ x. (x.terms, x.rent)) (λ p. record { terms = p.0; rent = p.1 }) (λ _. refl)

abbrev pub charge_code : Coded Charge
charge_code =
    code_by (ℕ × (ℕ × (ℕ × (ℕ × ℕ)))) (coded× coded_ℕ (coded× coded_ℕ (coded× coded_ℕ (coded× coded_ℕ coded_ℕ))))
    (λ x. (x.lease, (x.index, (x.month, (x.day, x.amount))))) (λ p. record { lease = p.0; index = p.1.0; month = p.1.1.0; day = p.1.1.1.0; amount = p.1.1.1.1 })
    (λ _. refl)

abbrev pub payment_code : Coded Payment
payment_code =
    code_by (ℕ × (ReceiptKind × (ℕ × ℕ))) (coded× coded_ℕ (coded× receipt_kind_code (coded× coded_ℕ coded_ℕ)))
    (λ x. (x.lease, (x.kind, (x.amount, x.day)))) (λ p. record { lease = p.0; kind = p.1.0; amount = p.1.1.0; day = p.1.1.1 }) (λ _. refl)

abbrev pub receipt_code : Coded Receipt
receipt_code =
    code_by (ℕ × (List ℕ × Payment)) (coded× coded_ℕ (coded× coded_text payment_code))
    (λ x. (x.number, (x.key, x.payment))) (λ p. record { number = p.0; key = p.1.0; payment = p.1.1 }) (λ _. refl)

abbrev pub run_code : Coded Run
run_code =
    code_by (ℕ × (List ℕ × (ℕ × (ℕ × Bool)))) (coded× coded_ℕ (coded× coded_text (coded× coded_ℕ (coded× coded_ℕ coded_bool))))
    (λ x. (x.month, (x.key, (x.count, (x.total, x.is_closed))))) (λ p. record {
      month = p.0;
      key = p.1.0;
      count = p.1.1.0;
      total = p.1.1.1.0;
      is_closed = p.1.1.1.1;
    }) (λ _. refl)

abbrev pub part_code : Coded Part
part_code =
    code_by (ℕ × (List ℕ × (Option ℕ × (ℕ × ℕ)))) (coded× coded_ℕ (coded× coded_text (coded× (coded_option coded_ℕ) (coded× coded_ℕ coded_ℕ))))
    (λ x. (x.month, (x.branch, (x.through, (x.count, x.total))))) (λ p. record {
      month = p.0;
      branch = p.1.0;
      through = p.1.1.0;
      count = p.1.1.1.0;
      total = p.1.1.1.1;
    }) (λ _. refl)

abbrev pub open_run_code : Coded OpenRun
open_run_code = code_by (ℕ × ℕ) (coded× coded_ℕ coded_ℕ) (λ x. (x.month, x.done)) (λ p. record { month = p.0; done = p.1 }) (λ _. refl)

abbrev pub branch_fee_code : Coded BranchFee
branch_fee_code = code_by (List ℕ × ℕ) (coded× coded_text coded_ℕ) (λ e. (e.branch, e.fee)) (λ p. record { branch = p.0; fee = p.1 }) (λ _. refl)

abbrev pub part_fee_code : Coded PartFee
part_fee_code =
    code_by (ℕ × (List ℕ × (ℕ × ℕ))) (coded× coded_ℕ (coded× coded_text (coded× coded_ℕ coded_ℕ)))
    (λ e. (e.month, (e.branch, (e.fee, e.total)))) (λ p. record { month = p.0; branch = p.1.0; fee = p.1.1.0; total = p.1.1.1 }) (λ _. refl)

abbrev pub ending_code : Coded Ending
ending_code = code_by (ℕ × ℕ) (coded× coded_ℕ coded_ℕ) (λ e. (e.lease, e.months)) (λ p. record { lease = p.0; months = p.1 }) (λ _. refl)

abbrev pub books_code : Coded Books
books_code =
    code_by (FinMap text_cmp Branch
    × (FinMap text_cmp Staff
    × (FinMap text_cmp Owner
    × (FinMap text_cmp Property
    × (FinMap text_cmp Client
    × (FinMap (pair_cmp text_cmp text_cmp) Registration
    × (FinMap (pair_cmp text_cmp text_cmp) Viewing
    × (FinMap (pair_cmp text_cmp nat_cmp) Inspection
    × (FinMap nat_cmp Lease
    × (FinMap (pair_cmp nat_cmp nat_cmp) Charge
    × (FinMap nat_cmp Receipt × (FinMap nat_cmp Run × (FinMap (pair_cmp nat_cmp text_cmp) Part
    × (FinMap text_cmp BranchFee × (FinMap (pair_cmp nat_cmp text_cmp) PartFee × (FinMap nat_cmp Ending × (ℕ × (ℕ × Version))))))))))))))))))
    (coded× (fin.code coded_text branch_code)
    (coded× (fin.code coded_text staff_code)
    (coded× (fin.code coded_text owner_code)
    (coded× (fin.code coded_text property_code)
    (coded× (fin.code coded_text client_code)
    (coded× (fin.code (coded× coded_text coded_text) registration_code)
    (coded× (fin.code (coded× coded_text coded_text) viewing_code)
    (coded× (fin.code (coded× coded_text coded_ℕ) inspection_code)
    (coded× (fin.code coded_ℕ lease_code)
    (coded× (fin.code (coded× coded_ℕ coded_ℕ) charge_code)
    (coded× (fin.code coded_ℕ receipt_code)
    (coded× (fin.code coded_ℕ run_code) (coded× (fin.code (coded× coded_ℕ coded_text) part_code)
    (coded× (fin.code coded_text branch_fee_code) (coded× (fin.code (coded× coded_ℕ coded_text) part_fee_code)
    (coded× (fin.code coded_ℕ ending_code) (coded× coded_ℕ (coded× coded_ℕ version_code))))))))))))))))))
    (λ x. (
      x.branches,
      (
        x.staff,
        (
          x.owners,
          (
            x.properties,
            (
              x.clients,
              (
                x.registrations,
                (
                  x.viewings,
                  (
                    x.inspections,
                    (x.leases, (x.charges, (x.receipts, (x.runs, (x.parts, (x.branch_fees, (x.part_fees, (x.endings, (x.first, (x.next, x.version)))))))))),
                  ),
                ),
              ),
            ),
          ),
        ),
      ),
    ))
    (λ p. record {
      branches = p.0;
      staff = p.1.0;
      owners = p.1.1.0;
      properties = p.1.1.1.0;
      clients = p.1.1.1.1.0;
      registrations = p.1.1.1.1.1.0;
      viewings = p.1.1.1.1.1.1.0;
      inspections = p.1.1.1.1.1.1.1.0;
      leases = p.1.1.1.1.1.1.1.1.0;
      charges = p.1.1.1.1.1.1.1.1.1.0;
      receipts =
          p.1.1.1.1.1.1.1.1.1.1.0;
      runs = p.1.1.1.1.1.1.1.1.1.1.1.0;
      parts = p.1.1.1.1.1.1.1.1.1.1.1.1.0;
      branch_fees = p.1.1.1.1.1.1.1.1.1.1.1.1.1.0;
      part_fees = p.1.1.1.1.1.1.1.1.1.1.1.1.1.1.0;
      endings = p.1.1.1.1.1.1.1.1.1.1.1.1.1.1.1.0;
      first = p.1.1.1.1.1.1.1.1.1.1.1.1.1.1.1.1.0;
      next =
          p.1.1.1.1.1.1.1.1.1.1.1.1.1.1.1.1.1.0;
      version =
          p.1.1.1.1.1.1.1.1.1.1.1.1.1.1.1.1.1.1;
    }) (λ _. refl)

abbrev pub state_code : Coded State
state_code = code_by (Books × Option OpenRun) (coded× books_code (coded_option open_run_code)) (λ s. (s.books, s.open_run))
    (λ p. record { books = p.0; open_run = p.1 }) (λ _. refl)

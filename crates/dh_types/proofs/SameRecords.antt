-- Records whose fields are the same are one.
use Rattle.std.proofs.Common.{◌≡◌, ◌↔◌, ◌&&◌, Bool, refl, true, nat_eq}
use Rattle.std.specs.Cmp.Lexicographic.{pointwise}
use Rattle.dh_values.proofs.Ascii.{and_left, and_right}
use Rattle.dh_types.specs.Laws.{TellsApart}
use Rattle.dh_types.specs.Records.{is_same_branch, is_same_staff, is_same_owner, is_same_property, is_same_client, is_same_registration, is_same_viewing}
use Rattle.dh_types.specs.Records.{is_same_inspection, is_same_lease_terms, is_same_lease, is_same_charge, is_same_payment, is_same_receipt, is_same_run}
use Rattle.dh_types.specs.Records.{is_same_part}
use Rattle.dh_types.proofs.SameValues.{texts, numbers, flags, optional, property_types, positions, payment_methods, receipt_kinds}

infixl 50 ◌also◌
-- both tests are passed exactly where both facts hold
◌also◌ : {P Q : Type 0} {x y : Bool} → (x ≡ true) ↔ P → (y ≡ true) ↔ Q → ((x && y) ≡ true) ↔ (P × Q)
◌also◌ {x = x} {y = y} p q = (λ h. (p.0 (and_left x y h), q.0 (and_right x y h)), λ h. rw (p.1 h.0, q.1 h.1) refl)

-- records are told apart by their fields
by_fields : {T : Type 0} {is_same : T → T → Bool} (Fields : T → T → Type 0) → ((a b : T) → (is_same a b ≡ true) ↔ Fields a b)
    → ((a b : T) → Fields a b → a ≡ b) → ((a : T) → Fields a a) → TellsApart is_same
by_fields Fields tests joined itself a b = (λ h. joined a b ((tests a b).0 h), λ e. rw (← e) ((tests a a).1 (itself a)))

pub same_branch : TellsApart is_same_branch
same_branch = by_fields _
    (λ a b. texts a.number b.number also texts a.street b.street also texts a.city b.city also texts a.postcode b.postcode)
    (λ a b (((number, street), city), postcode) i. record { number = number i; street = street i; city = city i; postcode = postcode i })
    (λ a. (((refl, refl), refl), refl))

pub same_staff : TellsApart is_same_staff
same_staff = by_fields _
    (λ a b. texts a.number b.number also texts a.name b.name also positions a.position b.position also texts a.branch b.branch)
    (λ a b (((number, name), position), branch) i. record { number = number i; name = name i; position = position i; branch = branch i })
    (λ a. (((refl, refl), refl), refl))

pub same_owner : TellsApart is_same_owner
same_owner = by_fields _
    (λ a b. texts a.number b.number also texts a.name b.name also texts a.address b.address also texts a.telephone b.telephone)
    (λ a b (((number, name), address), telephone) i. record {
      number = number i;
      name = name i;
      address = address i;
      telephone = telephone i;
    })
    (λ a. (((refl, refl), refl), refl))

pub same_property : TellsApart is_same_property
same_property = by_fields _
    (λ a b. texts a.number b.number also texts a.street b.street also texts a.city b.city also texts a.postcode b.postcode
    also property_types a.property_type b.property_type also numbers a.rooms b.rooms also numbers a.rent b.rent also texts a.owner b.owner
    also optional (pointwise nat_eq) texts a.staff b.staff also texts a.branch b.branch)
    (λ a b (((((((((number, street), city), postcode), property_type), rooms), rent), owner), staff), branch) i. record {
      number = number i;
      street = street i;
      city = city i;
      postcode = postcode i;
      property_type = property_type i;
      rooms = rooms i;
      rent = rent i;
      owner = owner i;
      staff = staff i;
      branch = branch i;
    })
    (λ a. (((((((((refl, refl), refl), refl), refl), refl), refl), refl), refl), refl))

pub same_client : TellsApart is_same_client
same_client = by_fields _
    (λ a b. texts a.number b.number also texts a.name b.name also texts a.telephone b.telephone
    also property_types a.preferred_type b.preferred_type also numbers a.greatest_rent b.greatest_rent)
    (λ a b ((((number, name), telephone), preferred_type), greatest_rent) i. record {
      number = number i;
      name = name i;
      telephone = telephone i;
      preferred_type = preferred_type i;
      greatest_rent = greatest_rent i;
    })
    (λ a. ((((refl, refl), refl), refl), refl))

pub same_registration : TellsApart is_same_registration
same_registration = by_fields _
    (λ a b. texts a.client b.client also texts a.branch b.branch also texts a.staff b.staff also numbers a.day b.day)
    (λ a b (((client, branch), staff), day) i. record { client = client i; branch = branch i; staff = staff i; day = day i })
    (λ a. (((refl, refl), refl), refl))

pub same_viewing : TellsApart is_same_viewing
same_viewing = by_fields _
    (λ a b. texts a.client b.client also texts a.property b.property also numbers a.day b.day
    also optional (pointwise nat_eq) texts a.comment b.comment)
    (λ a b (((client, property), day), comment) i. record { client = client i; property = property i; day = day i; comment = comment i })
    (λ a. (((refl, refl), refl), refl))

pub same_inspection : TellsApart is_same_inspection
same_inspection = by_fields _
    (λ a b. texts a.property b.property also numbers a.day b.day also texts a.staff b.staff also texts a.comment b.comment)
    (λ a b (((property, day), staff), comment) i. record { property = property i; day = day i; staff = staff i; comment = comment i })
    (λ a. (((refl, refl), refl), refl))

pub same_lease_terms : TellsApart is_same_lease_terms
same_lease_terms = by_fields _
    (λ a b. numbers a.number b.number also texts a.client b.client also texts a.property b.property also numbers a.start b.start
    also numbers a.months b.months also payment_methods a.method b.method)
    (λ a b (((((number, client), property), start), months), method) i. record {
      number = number i;
      client = client i;
      property = property i;
      start = start i;
      months = months i;
      method = method i;
    })
    (λ a. (((((refl, refl), refl), refl), refl), refl))

pub same_lease : TellsApart is_same_lease
same_lease = by_fields _
    (λ a b. same_lease_terms a.terms b.terms also numbers a.rent b.rent)
    (λ a b (terms, rent) i. record { terms = terms i; rent = rent i })
    (λ a. (refl, refl))

pub same_charge : TellsApart is_same_charge
same_charge = by_fields _
    (λ a b. numbers a.lease b.lease also numbers a.index b.index also numbers a.month b.month also numbers a.day b.day
    also numbers a.amount b.amount)
    (λ a b ((((lease, index), month), day), amount) i. record {
      lease = lease i;
      index = index i;
      month = month i;
      day = day i;
      amount = amount i;
    })
    (λ a. ((((refl, refl), refl), refl), refl))

pub same_payment : TellsApart is_same_payment
same_payment = by_fields _
    (λ a b. numbers a.lease b.lease also receipt_kinds a.kind b.kind also numbers a.amount b.amount also numbers a.day b.day)
    (λ a b (((lease, kind), amount), day) i. record { lease = lease i; kind = kind i; amount = amount i; day = day i })
    (λ a. (((refl, refl), refl), refl))

pub same_receipt : TellsApart is_same_receipt
same_receipt = by_fields _
    (λ a b. numbers a.number b.number also texts a.key b.key also same_payment a.payment b.payment)
    (λ a b ((number, key), payment) i. record { number = number i; key = key i; payment = payment i })
    (λ a. ((refl, refl), refl))

pub same_run : TellsApart is_same_run
same_run = by_fields _
    (λ a b. numbers a.month b.month also texts a.key b.key also numbers a.count b.count also numbers a.total b.total
    also flags a.is_closed b.is_closed)
    (λ a b ((((month, key), count), total), is_closed) i. record {
      month = month i;
      key = key i;
      count = count i;
      total = total i;
      is_closed = is_closed i;
    })
    (λ a. ((((refl, refl), refl), refl), refl))

pub same_part : TellsApart is_same_part
same_part = by_fields _
    (λ a b. numbers a.month b.month also texts a.branch b.branch also optional nat_eq numbers a.through b.through
    also numbers a.count b.count also numbers a.total b.total)
    (λ a b ((((month, branch), through), count), total) i. record {
      month = month i;
      branch = branch i;
      through = through i;
      count = count i;
      total = total i;
    })
    (λ a. ((((refl, refl), refl), refl), refl))

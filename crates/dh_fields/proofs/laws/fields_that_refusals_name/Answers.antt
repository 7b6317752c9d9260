use Rattle.std.proofs.Common.{refl}
use Rattle.dh_fields.proofs.laws.fields_that_refusals_name.Goals as goal

pub returns : goal.returns
returns c = record {
  fee_branch = λ fields. (_, refl, refl);
  staff_branch = λ fields. (_, refl, refl);
  property_owner = λ fields. (_, refl, refl);
  property_staff = λ fields. (_, refl, refl);
  property_branch = λ fields. (_, refl, refl);
  assigned_property = λ fields. (_, refl, refl);
  assigned_staff = λ fields. (_, refl, refl);
  rent_property = λ fields. (_, refl, refl);
  registered_client = λ fields. (_, refl, refl);
  registered_branch = λ fields. (_, refl, refl);
  registered_staff = λ fields. (_, refl, refl);
  viewing_client = λ fields. (_, refl, refl);
  viewing_property = λ fields. (_, refl, refl);
  comment_client = λ fields. (_, refl, refl);
  inspected_property = λ fields. (_, refl, refl);
  inspection_staff = λ fields. (_, refl, refl);
  lease_client = λ fields. (_, refl, refl);
  lease_property = λ fields. (_, refl, refl);
  ended_lease = λ fields. (_, refl, refl);
  receipt_lease = λ fields. (_, refl, refl);
  asked_client = λ fields. (_, refl, refl);
  asked_lease = λ fields. (_, refl, refl);
  asked_branch = λ fields. (_, refl, refl);
  asked_owner = λ fields. (_, refl, refl);
}

use Rattle.std.proofs.Common.{ap, Some}
use Rattle.std.specs.Map.Iter.{deref}
use Rattle.std.proofs.lemmas.Map.Iter.{rest_more}
use Rattle.dh_types.specs.Records.{is_same_optional}
use Rattle.dh_model.specs.Checks.{is_same_text}
use Rattle.dh_audit_rules.proofs.Counting.{counted_on, still_fits}
use Rattle.dh_audit_rules.proofs.staff.managed.Goals as goal

pub loop-property-preserved-in-Continue-1 : goal.loop-property-preserved-in-Continue-1
loop-property-preserved-in-Continue-1 c =
    let front = rest_more deref _ _ _ _ c.in-Some.is c.next.ensures.steps in
    record {
      value = λ member.
          counted_on (λ property. is_same_optional is_same_text property.staff (Some member)) c.in-Some.property.now _ _ _ _
          (is_same_text c.in-Some-staff.member member) front
          (ap (λ o. is_same_optional is_same_text o (Some member)) c.in-Some-staff.is) (c.in_ok-add.ensures member) _ (c.loop-property.invariant.value member);
      range = λ member.
          still_fits (λ property. is_same_optional is_same_text property.staff (Some member)) c.in-Some.property.now _ _ _ _
          (is_same_text c.in-Some-staff.member member) front
          (ap (λ o. is_same_optional is_same_text o (Some member)) c.in-Some-staff.is) (c.in_ok-add.ensures member) _ (c.loop-property.invariant.range member);
    }

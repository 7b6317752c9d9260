use Rattle.std.proofs.Common.{refl, nat_eq, ◌||◌}
use Rattle.dh_types.specs.declared.lease.Lease.{Lease}
use Rattle.dh_model.specs.Checks.{is_same_text}
use Rattle.dh_store.proofs.verdicts.rows.leases.Goals as goal

pub returns-clause-gathered : goal.returns-clause-gathered
returns-clause-gathered g c t b at none =
    let terms = c.args.terms.now in
    let numbered = c.in_ok-look.ensures.brought.first t b at none in
    let of_property = c.in_ok-look-2.ensures.brought.more t _ (λ (lease : Lease). nat_eq lease.terms.number terms.number) numbered refl in
    c.look-3.ensures.brought.more t _
    (λ (lease : Lease). nat_eq lease.terms.number terms.number || is_same_text lease.terms.property terms.property) of_property refl

use Rattle.std.proofs.Common.{◌∙◌, sym}
use Rattle.std.proofs.lemmas.Bool.{false≢true}
use Rattle.dh_audit_rules.proofs.open_months.are_posted.Goals as goal
use Rattle.dh_audit_rules.proofs.open_months.are_posted.Goals.{then-branch+in_ok-parts_are_posted, else-branch}

pub returns-in_ok-charges_are_posted : goal.returns-in_ok-charges_are_posted
returns-in_ok-charges_are_posted c = elim c.if-branch.branch [
  | then-branch+in_ok-parts_are_posted w ↦ (
    λ yes. record {
      few = c.in_ok-has_batches.ensures.0 w.if-branch.true;
      charges = c.in_ok-charges_are_posted.ensures.0 yes;
      parts = w.in_ok-parts_are_posted.ensures.0 (sym w.value-is ∙ c.if-branch-2.true);
    },
    λ posted. c.in_ok-charges_are_posted.ensures.1 posted.charges,
  )
  | else-branch w ↦ absurd (false≢true (sym w.if-branch.false ∙ sym w.value-is ∙ c.if-branch-2.true))
]

use Rattle.std.proofs.Common.{◌≡◌, ℕ, ◌+◌, ◌≤◌, List, Some, length}
use Rattle.std.specs.List.{count_by}
use Rattle.dh_types.specs.Records.{is_same_optional}
use Rattle.dh_model.specs.Checks.{is_same_text}
use Rattle.dh_model.specs.Rules.{managed_by}
use Rattle.dh_audit_rules.specs.Counts.{count_at}
use Rattle.dh_audit_rules.proofs.staff.managed.Given as goal

abbrev pub invariant-loop-property : goal.invariant-loop-property
invariant-loop-property l = record {
  value : (member : List ℕ) → count_at l.counts member + count_by (λ property. is_same_optional is_same_text property.staff (Some member)) l.property-iterator
      ≡ managed_by l.books.books member;
  range : (member : List ℕ) → count_at l.counts member + length l.property-iterator ≤ l._count;
}

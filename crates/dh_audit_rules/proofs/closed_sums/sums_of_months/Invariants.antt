use Rattle.std.proofs.Common.{◌≡◌, ◌*◌, ◌≤◌, ℕ, take}
use Rattle.std.specs.Ordering.{nat_cmp}
use Rattle.dh_audit_rules.specs.ClosedMonths.{charges_of_month, sum_at, sum_of}
use Rattle.dh_audit_rules.proofs.closed_sums.sums_of_months.Given as goal

abbrev pub invariant-loop-due : goal.invariant-loop-due
invariant-loop-due l = record {
  value : (month : ℕ) → sum_at nat_cmp l.sums month ≡ sum_of (charges_of_month (take l.due-index l.dues) month);
  small : (month : ℕ) → (sum_at nat_cmp l.sums month).total ≤ 999999 * (sum_at nat_cmp l.sums month).count;
}

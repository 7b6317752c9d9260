use Rattle.std.proofs.Common.{◌≡◌, ◌*◌, ◌≤◌, ℕ, List, take}
use Rattle.std.specs.Ordering.{nat_cmp}
use Rattle.dh_model.specs.Books.{pair_cmp, text_cmp}
use Rattle.dh_audit_rules.specs.ClosedMonths.{charges_of_branch, sum_at, sum_of}
use Rattle.dh_audit_rules.proofs.closed_sums.sums_of_branches.Given as goal

abbrev pub invariant-loop-due : goal.invariant-loop-due
invariant-loop-due l = record {
  value : (key : ℕ × List ℕ) → sum_at (pair_cmp nat_cmp text_cmp) l.sums key ≡ sum_of (charges_of_branch (take l.due-index l.dues) key);
  small : (key : ℕ × List ℕ) → (sum_at (pair_cmp nat_cmp text_cmp) l.sums key).total ≤ 999999 * (sum_at (pair_cmp nat_cmp text_cmp) l.sums key).count;
}

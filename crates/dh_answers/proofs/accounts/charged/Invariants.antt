use Rattle.std.proofs.Common.{◌≡◌, ℕ, ◌+◌, ◌*◌, ◌≤◌, nat_eq, if◌then◌else◌, length}
use Rattle.std.specs.List.{filter}
use Rattle.dh_model.specs.Runs.{total_of}
use Rattle.dh_model.specs.Answers.{charges_of}
use Rattle.dh_answers.specs.Sums.{sum_at}
use Rattle.dh_answers.proofs.accounts.charged.Given as goal

abbrev pub invariant-loop-charge : goal.invariant-loop-charge
invariant-loop-charge l = record {
  value : (lease : ℕ)
      → sum_at l.sums lease + (if nat_eq l.lease lease then l.pence else 0) + total_of (filter (λ charge. nat_eq charge.lease lease) l.charge-iterator)
      ≡ total_of (charges_of l.books.books lease);
  range : (lease : ℕ) → sum_at l.sums lease + l.pence + 999999 * length l.charge-iterator ≤ 999999 * l._count;
}

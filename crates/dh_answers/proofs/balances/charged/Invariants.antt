use Rattle.std.proofs.Common.{◌≡◌, ◌+◌, ◌*◌, ◌≤◌, nat_eq, length}
use Rattle.std.specs.List.{filter}
use Rattle.dh_model.specs.Runs.{total_of}
use Rattle.dh_model.specs.Answers.{charges_of}
use Rattle.dh_answers.proofs.balances.charged.Given as goal

abbrev pub invariant-loop-charge : goal.invariant-loop-charge
invariant-loop-charge l = record {
  value : l.sum + total_of (filter (λ charge. nat_eq charge.lease l.lease) l.charge-iterator) ≡ total_of (charges_of l.books.books l.lease);
  range : l.sum + 999999 * length l.charge-iterator ≤ 999999 * l._count;
}

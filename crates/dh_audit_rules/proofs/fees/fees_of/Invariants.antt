use Rattle.std.proofs.Common.{◌≡◌}
use Rattle.std.specs.Prelude.{IfSome}
use Rattle.dh_audit_rules.specs.Fees.{branch_of}
use Rattle.dh_audit_rules.proofs.FeeRows.{IsDone}
use Rattle.dh_audit_rules.proofs.fees.fees_of.Given as goal

abbrev pub invariant-loop-charge : goal.invariant-loop-charge
invariant-loop-charge l = record {
  done : IsDone l.books.books l._count l.fees l.charge-iterator;
  latest : IfSome l.latest (λ latest. latest.branch ≡ branch_of l.books.books latest.lease);
}

use Rattle.std.proofs.Common.{◌≡◌, ◌++◌}
use Rattle.std.specs.List.{flat_map}
use Rattle.dh_audit_rules.specs.ClosedMonths.{all_dues, dues_at}
use Rattle.dh_audit_rules.proofs.closed_dues.all_dues.Given as goal

abbrev pub invariant-loop-lease : goal.invariant-loop-lease
invariant-loop-lease l = l.dues.items ++ flat_map (dues_at l.books.books) l.lease-iterator ≡ all_dues l.books.books

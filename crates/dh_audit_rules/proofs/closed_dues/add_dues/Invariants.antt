use Rattle.std.proofs.Common.{◌≡◌, ◌++◌, map}
use Rattle.dh_model.specs.Leases.{dues_of}
use Rattle.dh_audit_rules.specs.ClosedMonths.{due_at}
use Rattle.dh_audit_rules.proofs.ClosedDues.{left}
use Rattle.dh_audit_rules.proofs.closed_dues.add_dues.Given as goal

abbrev pub invariant-loop-index : goal.invariant-loop-index
invariant-loop-index l =
    l.dues.items ++ left l.books.books.endings l.branch l.lease l.index ≡ l.fn.dues.items ++ map (due_at l.branch) (dues_of l.books.books.endings l.lease)

use Rattle.std.proofs.Common.{ap, map}
use Rattle.std.specs.Map.Iter.{deref}
use Rattle.std.proofs.lemmas.Map.Iter.{rest_more}
use Rattle.dh_model.specs.Leases.{dues_of}
use Rattle.dh_audit_rules.specs.ClosedMonths.{due_at, dues_at}
use Rattle.dh_audit_rules.proofs.ClosedDues.{dues_added}
use Rattle.dh_audit_rules.proofs.closed_dues.all_dues.Goals as goal

pub loop-lease-preserved : goal.loop-lease-preserved
loop-lease-preserved c =
    let lease = c.in-Some.lease.now in
    dues_added (dues_at c.args.books.now.books) lease _ _ _ _ _ _ (rest_more deref _ _ _ _ c.in-Some.is c.next.ensures.steps) c.in_ok-add_dues.ensures
    (ap (λ place. map (due_at place) (dues_of c.args.books.now.books.endings lease)) c.branch_of.ensures) c.loop-lease.invariant

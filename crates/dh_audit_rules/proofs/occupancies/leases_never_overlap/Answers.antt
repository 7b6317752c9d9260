use Rattle.std.specs.FinMap as fin
use Rattle.dh_audit_rules.proofs.Neighbours.{stays_tell}
use Rattle.dh_audit_rules.proofs.occupancies.leases_never_overlap.Goals as goal

pub returns : goal.returns
returns c =
    let books = c.args.books.now.books in
    stays_tell books.endings (fin.values books.leases) c.in_ok-stays.stays.items c.follow_each_other.result c.in_ok-stays.ensures.rows
    c.in_ok-stays.ensures.sound c.in_ok-stays.ensures.sorted c.follow_each_other.ensures

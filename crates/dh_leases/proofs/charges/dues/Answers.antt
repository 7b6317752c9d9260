use Rattle.std.proofs.Common.{◌∙◌, ap, arith}
use Rattle.std.proofs.lemmas.Grind.{common_steps}
use Rattle.std.specs.Map.Iter.{deref}
use Rattle.std.proofs.lemmas.Map.Iter.{iter_end}
use Rattle.dh_model.specs.Leases.{dues_among}
use Rattle.dh_leases.proofs.charges.dues.Goals as goal

pub loop-lease-preserved-in-Continue-1 : goal.loop-lease-preserved-in-Continue-1
loop-lease-preserved-in-Continue-1 c = grind (arith, common_steps)

pub returns : goal.returns
returns c =
    let all = (iter_end deref _ _ _ _ _ _ (c.into_iter-lease-iterator.ensures.into_iter_gives
    ∙ c.leases-lease-items.ensures.rows) c.loop-lease.yielded_by c.in-None.is c.next.ensures.steps).0 in
    c.loop-lease.invariant ∙ ap (λ leases. dues_among c.args.books.now.books.endings leases c.args.month) all

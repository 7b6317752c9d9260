use Rattle.std.proofs.Common.{◌∙◌}
use Rattle.std.specs.Map.Iter.{deref}
use Rattle.std.proofs.lemmas.Map.Iter.{iter_end}
use Rattle.dh_store.proofs.endings.listed_leases.Goals as goal

pub returns : goal.returns
returns c =
    c.loop-lease.invariant
    ∙ (iter_end deref _ _ _ _ _ _ (c.into_iter-lease-iterator.ensures.into_iter_gives
    ∙ c.leases-lease-items.ensures.rows) c.loop-lease.yielded_by c.in-None.is c.next.ensures.steps).0

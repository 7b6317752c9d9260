use Rattle.std.proofs.Common.{◌∙◌}
use Rattle.std.specs.Map.Iter.{deref}
use Rattle.std.proofs.lemmas.Map.Iter.{iter_end}
use Rattle.dh_runs.proofs.migration.listed_parts.Goals as goal

pub returns : goal.returns
returns c =
    c.loop-part.invariant
    ∙ (iter_end deref _ _ _ _ _ _ (c.into_iter-part-iterator.ensures.into_iter_gives
    ∙ c.parts-part-items.ensures.rows) c.loop-part.yielded_by c.in-None.is c.next.ensures.steps).0

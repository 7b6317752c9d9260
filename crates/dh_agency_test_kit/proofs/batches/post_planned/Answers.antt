use Rattle.std.proofs.Common.{sym, subst}
use Rattle.dh_laws.specs.Batches.{IsUnderWay}
use Rattle.dh_agency_test_kit.proofs.batches.post_planned.Goals as goal

pub post_batch-requires-clause-run : goal.post_batch-requires-clause-run
post_batch-requires-clause-run g c clean = subst (λ it. IsUnderWay it) (sym (c.requires.planned clean).shown) tt

use Rattle.dh_laws.proofs.BatchLemmas.Small.{next_batch_is_small}
use Rattle.dh_laws.proofs.batches.next_batch_is_small.Goals as goal

pub returns : goal.returns
returns c = next_batch_is_small

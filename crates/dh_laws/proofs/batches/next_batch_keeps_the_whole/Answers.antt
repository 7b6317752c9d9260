use Rattle.dh_laws.proofs.BatchLemmas.Whole.{next_batch_keeps_the_whole}
use Rattle.dh_laws.proofs.batches.next_batch_keeps_the_whole.Goals as goal

pub returns : goal.returns
returns c = next_batch_keeps_the_whole

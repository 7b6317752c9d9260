use Rattle.dh_laws.proofs.BatchLemmas.Next.{next_batch_adds_the_next}
use Rattle.dh_laws.proofs.batches.next_batch_adds_the_next.Goals as goal

pub returns : goal.returns
returns c = next_batch_adds_the_next

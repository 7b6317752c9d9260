use Rattle.dh_model.proofs.BatchLemmas.{each_due_has_its_batch}
use Rattle.dh_model.proofs.batch_laws.each_due_has_its_batch.Goals as goal

pub returns : goal.returns
returns c = each_due_has_its_batch

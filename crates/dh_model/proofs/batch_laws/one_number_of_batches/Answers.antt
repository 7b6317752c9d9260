use Rattle.dh_model.proofs.RunLemmas.{one_number_of_batches}
use Rattle.dh_model.proofs.batch_laws.one_number_of_batches.Goals as goal

pub returns : goal.returns
returns c = one_number_of_batches

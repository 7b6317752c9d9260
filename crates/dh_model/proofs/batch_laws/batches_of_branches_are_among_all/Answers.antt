use Rattle.dh_model.proofs.BatchLemmas.{batches_of_branches_are_among_all}
use Rattle.dh_model.proofs.batch_laws.batches_of_branches_are_among_all.Goals as goal

pub returns : goal.returns
returns c = batches_of_branches_are_among_all

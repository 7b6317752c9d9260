use Rattle.dh_model.proofs.MachineLemmas.{free_keep}
use Rattle.dh_model.proofs.machine_laws.free_keep_the_run.Goals as goal

pub returns : goal.returns
returns c = free_keep

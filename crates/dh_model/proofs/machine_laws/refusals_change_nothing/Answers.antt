use Rattle.dh_model.proofs.MachineLemmas.{refusals_keep}
use Rattle.dh_model.proofs.machine_laws.refusals_change_nothing.Goals as goal

pub returns : goal.returns
returns c = refusals_keep

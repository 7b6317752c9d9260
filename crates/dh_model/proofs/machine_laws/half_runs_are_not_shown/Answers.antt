use Rattle.dh_model.proofs.MachineLemmas.{half_runs_not_shown}
use Rattle.dh_model.proofs.machine_laws.half_runs_are_not_shown.Goals as goal

pub returns : goal.returns
returns c = half_runs_not_shown

use Rattle.dh_model.proofs.MachineLemmas.{frozen_refused}
use Rattle.dh_model.proofs.machine_laws.frozen_are_refused.Goals as goal

pub returns : goal.returns
returns c = frozen_refused

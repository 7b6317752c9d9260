use Rattle.dh_model.proofs.MachineLemmas.{run_is_opening}
use Rattle.dh_model.proofs.machine_laws.run_is_opening_and_batches.Goals as goal

pub returns : goal.returns
returns c = run_is_opening

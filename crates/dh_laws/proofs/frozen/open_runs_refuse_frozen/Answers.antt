use Rattle.dh_laws.proofs.FrozenLemmas.Refusals.{open_runs_refuse_frozen}
use Rattle.dh_laws.proofs.frozen.open_runs_refuse_frozen.Goals as goal

pub returns : goal.returns
returns c = open_runs_refuse_frozen

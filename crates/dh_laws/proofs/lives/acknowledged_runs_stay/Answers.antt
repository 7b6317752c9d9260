use Rattle.dh_laws.proofs.RunLemmas.Stays.{acknowledged_runs_stay}
use Rattle.dh_laws.proofs.lives.acknowledged_runs_stay.Goals as goal

pub returns : goal.returns
returns c = acknowledged_runs_stay

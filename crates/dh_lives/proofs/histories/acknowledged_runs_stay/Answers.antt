use Rattle.dh_model.specs.Runs.{batch_size}
use Rattle.dh_lives.proofs.Ending.{acknowledged_runs_stay}
use Rattle.dh_lives.proofs.histories.acknowledged_runs_stay.Goals as goal

pub returns : goal.returns
returns g c = acknowledged_runs_stay g.S.Store (c.acknowledged_runs_stay.ensures batch_size)

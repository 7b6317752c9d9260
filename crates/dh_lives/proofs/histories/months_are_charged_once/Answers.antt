use Rattle.dh_model.specs.Runs.{batch_size}
use Rattle.dh_lives.proofs.Ending.{months_are_charged_once}
use Rattle.dh_lives.proofs.histories.months_are_charged_once.Goals as goal

pub returns : goal.returns
returns g c = months_are_charged_once g.S.Store (c.months_are_charged_once.ensures batch_size)

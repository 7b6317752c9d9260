use Rattle.dh_model.specs.Runs.{batch_size}
use Rattle.dh_lives.proofs.Ending.{tables_are_the_machines}
use Rattle.dh_lives.proofs.histories.tables_are_the_machines.Goals as goal

pub returns : goal.returns
returns g c = tables_are_the_machines g.S.Store (c.lives.ensures batch_size)

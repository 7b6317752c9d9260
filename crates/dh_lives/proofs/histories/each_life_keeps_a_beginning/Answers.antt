use Rattle.dh_model.specs.Runs.{batch_size}
use Rattle.dh_lives.proofs.Ending.{each_life_keeps_a_beginning}
use Rattle.dh_lives.proofs.histories.each_life_keeps_a_beginning.Goals as goal

pub returns : goal.returns
returns g c = each_life_keeps_a_beginning g.S.Store (c.lives.ensures batch_size) (c.each_life_keeps_a_beginning.ensures batch_size)

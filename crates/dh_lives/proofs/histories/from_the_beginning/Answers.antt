use Rattle.dh_model.specs.Runs.{batch_size}
use Rattle.dh_lives.proofs.Ending.{from_the_beginning}
use Rattle.dh_lives.proofs.histories.from_the_beginning.Goals as goal

pub returns : goal.returns
returns g c = from_the_beginning g.S.Store (c.lives.ensures batch_size)

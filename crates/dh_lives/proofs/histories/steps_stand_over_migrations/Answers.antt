use Rattle.dh_lives.proofs.Through.{steps_stand}
use Rattle.dh_lives.proofs.histories.steps_stand_over_migrations.Goals as goal

pub returns : goal.returns
returns g c = steps_stand g.S.Store

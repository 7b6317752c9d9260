use Rattle.dh_lives.proofs.Through.{machines_stand}
use Rattle.dh_lives.proofs.histories.machines_over_migrations.Goals as goal

pub returns : goal.returns
returns g c = machines_stand g.S.Store

use Rattle.dh_model.specs.Runs.{batch_size}
use Rattle.dh_lives.proofs.Migrating.{lives_go_on_over_migrations}
use Rattle.dh_lives.proofs.histories.lives_go_on_over_migrations.Goals as goal

pub returns : goal.returns
returns g c = lives_go_on_over_migrations g.S.Store (c.lives.ensures batch_size)

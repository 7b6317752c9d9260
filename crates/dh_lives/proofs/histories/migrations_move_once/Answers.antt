use Rattle.dh_lives.proofs.Migrating.{migrations_move_once}
use Rattle.dh_lives.proofs.histories.migrations_move_once.Goals as goal

pub returns : goal.returns
returns g c = migrations_move_once g.S.Store

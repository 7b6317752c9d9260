use Rattle.dh_runs.proofs.Sound.{migration_moves_no_balance}
use Rattle.dh_runs.proofs.laws.migration_moves_no_balance.Goals as goal

pub returns : goal.returns
returns c = migration_moves_no_balance

use Rattle.dh_laws.proofs.BalanceLemmas.EachStep.{balances_move_as_told}
use Rattle.dh_laws.proofs.balances.balances_move_as_told.Goals as goal

pub returns : goal.returns
returns c = balances_move_as_told

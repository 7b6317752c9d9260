use Rattle.dh_laws.proofs.BalanceLemmas.Charges.{charges_are_dues}
use Rattle.dh_laws.proofs.balances.charges_are_dues.Goals as goal

pub returns : goal.returns
returns c = charges_are_dues

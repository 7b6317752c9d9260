use Rattle.dh_values.proofs.MoneyTexts.{money_apart}
use Rattle.dh_values.proofs.laws.balances.Goals as goal

pub returns : goal.returns
returns c = money_apart

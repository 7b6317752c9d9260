use Rattle.dh_days.proofs.TextOrder.{days_apart}
use Rattle.dh_days.proofs.laws.days_print_apart.Goals as goal

pub returns : goal.returns
returns c = days_apart

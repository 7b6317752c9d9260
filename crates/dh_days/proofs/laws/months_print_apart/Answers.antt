use Rattle.dh_days.proofs.TextOrder.{months_apart}
use Rattle.dh_days.proofs.laws.months_print_apart.Goals as goal

pub returns : goal.returns
returns c = months_apart

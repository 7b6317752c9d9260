use Rattle.dh_days.proofs.DayMonths.{months_later_in_order}
use Rattle.dh_days.proofs.laws.months_later_in_order.Goals as goal

pub returns : goal.returns
returns c = months_later_in_order

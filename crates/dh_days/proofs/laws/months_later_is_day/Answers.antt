use Rattle.dh_days.proofs.DayMonths.{months_later_is_day}
use Rattle.dh_days.proofs.laws.months_later_is_day.Goals as goal

pub returns : goal.returns
returns c = months_later_is_day

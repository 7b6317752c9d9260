use Rattle.dh_days.proofs.DayMonths.{zero_months_later_is_the_day}
use Rattle.dh_days.proofs.laws.zero_months_later_is_the_day.Goals as goal

pub returns : goal.returns
returns c = zero_months_later_is_the_day

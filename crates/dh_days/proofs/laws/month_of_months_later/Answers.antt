use Rattle.dh_days.proofs.DayMonths.{month_of_months_later}
use Rattle.dh_days.proofs.laws.month_of_months_later.Goals as goal

pub returns : goal.returns
returns c = month_of_months_later

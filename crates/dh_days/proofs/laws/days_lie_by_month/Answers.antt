use Rattle.dh_days.proofs.DayMonths.{lies_by_month}
use Rattle.dh_days.proofs.laws.days_lie_by_month.Goals as goal

pub returns : goal.returns
returns c = lies_by_month

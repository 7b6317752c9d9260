use Rattle.dh_days.proofs.DayMonths.{more_months_later}
use Rattle.dh_days.proofs.laws.more_months_later.Goals as goal

pub returns : goal.returns
returns c = more_months_later

use Rattle.dh_days.proofs.DayTexts.{printed_day_read}
use Rattle.dh_days.proofs.laws.printed_days_are_read.Goals as goal

pub returns : goal.returns
returns c = printed_day_read

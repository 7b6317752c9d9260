use Rattle.dh_days.proofs.MonthTexts.{printed_read}
use Rattle.dh_days.proofs.laws.printed_months_are_read.Goals as goal

pub returns : goal.returns
returns c = printed_read

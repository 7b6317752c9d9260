use Rattle.std.proofs.Common.{arith}
use Rattle.dh_days.proofs.DayTexts.{printed_until_read}
use Rattle.dh_days.proofs.laws.printed_due_days_are_read.Goals as goal

pub returns : goal.returns
returns c d known until = printed_until_read 26411 d (omega arith) known until

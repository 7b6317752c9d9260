use Rattle.dh_days.proofs.ReadDays.{read_day_printed}
use Rattle.dh_days.proofs.laws.read_days_are_printed.Goals as goal

pub returns : goal.returns
returns c = read_day_printed

use Rattle.dh_days.proofs.ReadDays.{text_read_again}
use Rattle.dh_days.proofs.laws.day_texts_are_of_one.Goals as goal

pub returns : goal.returns
returns c = text_read_again

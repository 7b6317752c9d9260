use Rattle.dh_days.proofs.TextOrder.{day_texts_in_order}
use Rattle.dh_days.proofs.laws.day_texts_are_in_order.Goals as goal

pub returns : goal.returns
returns c = day_texts_in_order

use Rattle.dh_days.proofs.TextOrder.{month_texts_in_order}
use Rattle.dh_days.proofs.laws.month_texts_are_in_order.Goals as goal

pub returns : goal.returns
returns c = month_texts_in_order

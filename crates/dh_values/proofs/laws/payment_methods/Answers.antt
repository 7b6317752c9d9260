use Rattle.dh_values.proofs.KindTexts.{payment_methods}
use Rattle.dh_values.proofs.laws.payment_methods.Goals as goal

pub returns : goal.returns
returns c = payment_methods

use Rattle.dh_values.proofs.KindTexts.{receipt_kinds}
use Rattle.dh_values.proofs.laws.receipt_kinds.Goals as goal

pub returns : goal.returns
returns c = receipt_kinds

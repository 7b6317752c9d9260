use Rattle.std.proofs.Common.{arith}
use Rattle.dh_values.proofs.NumberTexts.{decimals_apart}
use Rattle.dh_values.proofs.laws.receipt_nos.Goals as goal

pub returns : goal.returns
returns c m n p q e = decimals_apart m n (omega arith) (omega arith) e

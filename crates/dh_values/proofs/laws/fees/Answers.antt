use Rattle.std.proofs.Common.{arith}
use Rattle.dh_values.proofs.NumberTexts.{numbers}
use Rattle.dh_values.proofs.laws.fees.Goals as goal

pub returns : goal.returns
returns c = numbers _ 0 10000 (omega arith) (λ n h. (omega arith, h))

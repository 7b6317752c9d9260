use Rattle.std.proofs.Common.{arith}
use Rattle.dh_values.proofs.NumberTexts.{numbers}
use Rattle.dh_values.proofs.laws.lease_months.Goals as goal

pub returns : goal.returns
returns c = numbers _ 3 12 (omega arith) (λ n h. h)

use Rattle.std.proofs.Common.{arith}
use Rattle.dh_values.proofs.NumberTexts.{numbers}
use Rattle.dh_values.proofs.laws.batch_counts.Goals as goal

pub returns : goal.returns
returns c = numbers _ 1 1000000 (omega arith) (λ n h. h)

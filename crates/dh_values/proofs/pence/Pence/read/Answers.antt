use Rattle.std.proofs.Common.{arith}
use Rattle.dh_values.proofs.MoneyTexts.{pence_small}
use Rattle.dh_values.proofs.pence.Pence.read.Goals as goal

pub invariant_of-result : goal.invariant_of-result
invariant_of-result c = omega (arith, pence_small c.in_ok-pence.pence c.args.text.now c.in_ok-pence.ensures)

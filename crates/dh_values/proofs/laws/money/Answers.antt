use Rattle.std.proofs.Common.{arith}
use Rattle.dh_values.proofs.MoneyTexts.{pence_read, pence_small, pence_apart}
use Rattle.dh_values.proofs.laws.money.Goals as goal

pub returns-clause-read_back : goal.returns-clause-read_back
returns-clause-read_back c = pence_read

pub returns-clause-apart : goal.returns-clause-apart
returns-clause-apart c p q g h e = pence_apart p q (omega (arith, g)) (omega (arith, h)) e

pub returns-clause-read_again : goal.returns-clause-read_again
returns-clause-read_again c p text h = pence_read p (pence_small p text h)

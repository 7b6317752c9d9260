use Rattle.std.proofs.Common.{arith}
use Rattle.dh_values.proofs.MoneyTexts.{range_read, pence_apart}
use Rattle.dh_values.proofs.laws.rents.Goals as goal

pub returns-clause-read_back : goal.returns-clause-read_back
returns-clause-read_back c p h = range_read 1 999999 p (omega arith) h.0 h.1

pub returns-clause-apart : goal.returns-clause-apart
returns-clause-apart c p q g h e = pence_apart p q (omega arith) (omega arith) e

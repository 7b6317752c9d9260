use Rattle.std.proofs.Common.{arith, refl}
use Rattle.dh_days.proofs.DayTexts.{printed_until_read}
use Rattle.dh_rows.specs.Cells.{is_read_cell}
use Rattle.dh_rows.proofs.word.DayCell.param.Goals as goal

pub returns-clause-grammar : goal.returns-clause-grammar
unfolding is_read_cell
returns-clause-grammar c until = rw (printed_until_read 26411 c.args.self.now (omega arith) c.month.ensures.range until) refl

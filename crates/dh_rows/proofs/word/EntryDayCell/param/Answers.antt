use Rattle.std.proofs.Common.{refl}
use Rattle.dh_days.proofs.DayTexts.{printed_day_read}
use Rattle.dh_rows.specs.Cells.{is_read_cell}
use Rattle.dh_rows.proofs.word.EntryDayCell.param.Goals as goal

pub returns-clause-grammar : goal.returns-clause-grammar
unfolding is_read_cell
returns-clause-grammar c keep = rw (printed_day_read c.args.self.now c.day.ensures.range) refl

use Rattle.std.proofs.Common.{false}
use Rattle.dh_days.specs.Months.{month_of}
use Rattle.dh_fields.proofs.ReadFields.{stops, texts, reads_spelled}
use Rattle.dh_fields.proofs.SpelledTexts.{month-IsUtf8}
use Rattle.dh_fields.specs.FieldKinds.{month}
use Rattle.dh_fields.proofs.line.Line.month.Goals as goal

pub returns-in_err-text : goal.returns-in_err-text
unfolding month
returns-in_err-text c = stops month c.args.self.now c.args.number false (texts month_of 0 month-IsUtf8) _ _ c.from_residual.ensures.1 c.in_err-text.ensures

pub returns : goal.returns
unfolding month
returns c = reads_spelled month_of 0 c.args.self.now c.args.number _ c.in_ok-text.ensures _ c.read.ensures _ c.or.ensures

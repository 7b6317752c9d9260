use Rattle.std.proofs.Common.{false}
use Rattle.dh_days.specs.Days.{day_of}
use Rattle.dh_fields.proofs.ReadFields.{stops, texts, reads_spelled}
use Rattle.dh_fields.proofs.SpelledTexts.{day-IsUtf8}
use Rattle.dh_fields.specs.FieldKinds.{day}
use Rattle.dh_fields.proofs.line.Line.day.Goals as goal

pub returns-in_err-text : goal.returns-in_err-text
unfolding day
returns-in_err-text c = stops day c.args.self.now c.args.number false (texts day_of 0 day-IsUtf8) _ _ c.from_residual.ensures.1 c.in_err-text.ensures

pub returns : goal.returns
unfolding day
returns c = reads_spelled day_of 0 c.args.self.now c.args.number _ c.in_ok-text.ensures _ c.read.ensures _ c.or.ensures

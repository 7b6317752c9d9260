use Rattle.std.proofs.Common.{false}
use Rattle.dh_values.specs.Kinds.{position_of}
use Rattle.dh_values.specs.declared.position.Position.TheVariants.{Manager}
use Rattle.dh_fields.proofs.ReadFields.{stops, texts, reads_spelled}
use Rattle.dh_fields.proofs.SpelledTexts.{position-IsUtf8}
use Rattle.dh_fields.specs.FieldKinds.{position}
use Rattle.dh_fields.proofs.line.Line.position.Goals as goal

pub returns-in_err-text : goal.returns-in_err-text
unfolding position
returns-in_err-text c = stops position c.args.self.now c.args.number false
    (texts position_of Manager position-IsUtf8) _ _ c.from_residual.ensures.1 c.in_err-text.ensures

pub returns : goal.returns
unfolding position
returns c = reads_spelled position_of Manager c.args.self.now c.args.number _ c.in_ok-text.ensures _ c.read.ensures _ c.or.ensures

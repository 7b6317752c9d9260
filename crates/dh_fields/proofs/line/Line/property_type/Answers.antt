use Rattle.std.proofs.Common.{false}
use Rattle.dh_values.specs.Kinds.{property_type_of}
use Rattle.dh_values.specs.declared.property_type.PropertyType.TheVariants.{House}
use Rattle.dh_fields.proofs.ReadFields.{stops, texts, reads_spelled}
use Rattle.dh_fields.proofs.SpelledTexts.{property_type-IsUtf8}
use Rattle.dh_fields.specs.FieldKinds.{property_type}
use Rattle.dh_fields.proofs.line.Line.property_type.Goals as goal

pub returns-in_err-text : goal.returns-in_err-text
unfolding property_type
returns-in_err-text c = stops property_type c.args.self.now c.args.number false
    (texts property_type_of House property_type-IsUtf8) _ _ c.from_residual.ensures.1 c.in_err-text.ensures

pub returns : goal.returns
unfolding property_type
returns c = reads_spelled property_type_of House c.args.self.now c.args.number _ c.in_ok-text.ensures _ c.read.ensures _ c.or.ensures

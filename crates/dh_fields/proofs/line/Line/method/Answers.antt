use Rattle.std.proofs.Common.{false}
use Rattle.dh_values.specs.Kinds.{payment_method_of}
use Rattle.dh_values.specs.declared.payment_method.PaymentMethod.TheVariants.{Cash}
use Rattle.dh_fields.proofs.ReadFields.{stops, texts, reads_spelled}
use Rattle.dh_fields.proofs.SpelledTexts.{payment_method-IsUtf8}
use Rattle.dh_fields.specs.FieldKinds.{method}
use Rattle.dh_fields.proofs.line.Line.method.Goals as goal

pub returns-in_err-text : goal.returns-in_err-text
unfolding method
returns-in_err-text c = stops method c.args.self.now c.args.number false
    (texts payment_method_of Cash payment_method-IsUtf8) _ _ c.from_residual.ensures.1 c.in_err-text.ensures

pub returns : goal.returns
unfolding method
returns c = reads_spelled payment_method_of Cash c.args.self.now c.args.number _ c.in_ok-text.ensures _ c.read.ensures _ c.or.ensures

use Rattle.std.proofs.Common.{false}
use Rattle.dh_values.specs.Kinds.{receipt_kind_of}
use Rattle.dh_values.specs.declared.receipt_kind.ReceiptKind.TheVariants.{Rent}
use Rattle.dh_fields.proofs.ReadFields.{stops, texts, reads_spelled}
use Rattle.dh_fields.proofs.SpelledTexts.{receipt_kind-IsUtf8}
use Rattle.dh_fields.specs.FieldKinds.{receipt_kind}
use Rattle.dh_fields.proofs.line.Line.receipt_kind.Goals as goal

pub returns-in_err-text : goal.returns-in_err-text
unfolding receipt_kind
returns-in_err-text c = stops receipt_kind c.args.self.now c.args.number false
    (texts receipt_kind_of Rent receipt_kind-IsUtf8) _ _ c.from_residual.ensures.1 c.in_err-text.ensures

pub returns : goal.returns
unfolding receipt_kind
returns c = reads_spelled receipt_kind_of Rent c.args.self.now c.args.number _ c.in_ok-text.ensures _ c.read.ensures _ c.or.ensures

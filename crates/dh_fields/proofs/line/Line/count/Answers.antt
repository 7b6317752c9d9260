use Rattle.std.proofs.Common.{false}
use Rattle.dh_values.specs.Numbers.{numeral_of, within}
use Rattle.dh_fields.proofs.ReadFields.{stops, texts, reads_spelled}
use Rattle.dh_fields.proofs.SpelledTexts.{numeral-IsUtf8}
use Rattle.dh_fields.specs.FieldKinds.{count}
use Rattle.dh_fields.proofs.line.Line.count.Goals as goal

pub returns-in_err-text : goal.returns-in_err-text
unfolding count
returns-in_err-text g c = stops (count g.row.LOW g.row.HIGH) c.args.self.now c.args.number false
    (texts (λ text. within g.row.LOW g.row.HIGH (numeral_of text)) g.row.LOW (numeral-IsUtf8 _ _)) _ _ c.from_residual.ensures.1 c.in_err-text.ensures

pub returns : goal.returns
unfolding count
returns g c = reads_spelled (λ text. within g.row.LOW g.row.HIGH (numeral_of text)) g.row.LOW c.args.self.now c.args.number _
    c.in_ok-text.ensures _ c.read.ensures _ c.or.ensures

use Rattle.std.proofs.Common.{false}
use Rattle.dh_values.specs.Money.{pence_of}
use Rattle.dh_values.specs.Numbers.{within}
use Rattle.dh_fields.proofs.ReadFields.{stops, texts, reads_spelled}
use Rattle.dh_fields.proofs.SpelledTexts.{pence-IsUtf8}
use Rattle.dh_fields.specs.FieldKinds.{money}
use Rattle.dh_fields.proofs.line.Line.money.Goals as goal

pub returns-in_err-text : goal.returns-in_err-text
unfolding money
returns-in_err-text g c = stops (money g.row.MOST) c.args.self.now c.args.number false
    (texts (λ text. within 1 g.row.MOST (pence_of text)) 1 (pence-IsUtf8 _ _)) _ _ c.from_residual.ensures.1 c.in_err-text.ensures

pub returns : goal.returns
unfolding money
returns g c = reads_spelled (λ text. within 1 g.row.MOST (pence_of text)) 1 c.args.self.now c.args.number _ c.in_ok-text.ensures _ c.read.ensures _ c.or.ensures

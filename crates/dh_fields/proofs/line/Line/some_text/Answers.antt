use Rattle.std.proofs.Common.{ap, ◌∙◌}
use Rattle.dh_values.specs.Texts.{is_text}
use Rattle.dh_fields.proofs.ReadFields.{stops, reads_plain, is_text-IsUtf8, wants}
use Rattle.dh_fields.specs.FieldKinds.{text}
use Rattle.dh_fields.specs.Readings.{passes}
use Rattle.dh_fields.proofs.line.Line.some_text.Goals as goal

pub returns-in_err-text : goal.returns-in_err-text
unfolding text
returns-in_err-text g c =
    stops (text g.row.MOST) c.args.self.now c.args.number _ (is_text-IsUtf8 g.row.MOST) _ _ c.from_residual.ensures.1 c.in_err-text.ensures

pub returns-in_err-read : goal.returns-in_err-read
unfolding text
returns-in_err-read g c =
    wants (text g.row.MOST) c.args.self.now c.args.number _ _ c.from_residual-in_err-read.ensures.1
    (ap (passes (is_text g.row.MOST)) c.in_ok-text.ensures ∙ c.in_err-read.ensures.memory)

pub returns : goal.returns
unfolding text
returns g c = reads_plain
    (is_text g.row.MOST) c.args.self.now c.args.number _ _ c.in_ok-text.ensures _ c.in_ok-read.ensures.value c.in_ok-read.ensures.exact _ c.or.ensures

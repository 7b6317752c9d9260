use Rattle.std.proofs.Common.{false}
use Rattle.dh_values.proofs.Ascii.{is_id-IsUtf8}
use Rattle.dh_values.specs.Texts.{is_id}
use Rattle.dh_fields.proofs.ReadFields.{stops, reads_plain}
use Rattle.dh_fields.specs.FieldKinds.{id}
use Rattle.dh_fields.proofs.line.Line.id.Goals as goal

pub returns-in_err-text : goal.returns-in_err-text
unfolding id
returns-in_err-text c = stops id c.args.self.now c.args.number false is_id-IsUtf8 _ _ c.from_residual.ensures.1 c.in_err-text.ensures

pub returns : goal.returns
unfolding id
returns c = reads_plain is_id c.args.self.now c.args.number false _ c.in_ok-text.ensures _ c.read.ensures.value c.read.ensures.exact _ c.or.ensures

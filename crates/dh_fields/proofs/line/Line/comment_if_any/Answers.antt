use Rattle.std.proofs.Common.{sym, ◌∙◌}
use Rattle.dh_fields.proofs.ReadFields.{stops, texts_or_nothing, reads_nothing, reads_something, stops_something, is_text-IsUtf8}
use Rattle.dh_fields.specs.FieldKinds.{comment, optional, text}
use Rattle.dh_fields.specs.Readings.{is_field}
use Rattle.dh_fields.proofs.line.Line.comment_if_any.Goals as goal

pub returns-in_err-text : goal.returns-in_err-text
unfolding text
returns-in_err-text c =
    stops (optional comment) c.args.self.now c.args.number _ (texts_or_nothing comment (is_text-IsUtf8 200)) _ _
    c.from_residual.ensures.1 c.in_err-text.ensures

pub returns-then-is_empty : goal.returns-then-is_empty
returns-then-is_empty c =
    let wanted = is_field comment.accepts c.args.self.now c.args.number in
    reads_nothing comment c.args.self.now c.args.number wanted _ c.in_ok-text.ensures (sym c.is_empty.ensures ∙ c.if-is_empty.true)

pub returns-in_err-some_text : goal.returns-in_err-some_text
returns-in_err-some_text c =
    let not_empty = sym c.is_empty.ensures ∙ c.if-is_empty.false in
    stops_something comment c.args.self.now c.args.number _ _ c.in_ok-text.ensures _ (λ wanted. wanted) not_empty _ _
    c.from_residual-in_err-some_text.ensures.1 c.in_err-some_text.ensures

pub returns : goal.returns
returns c =
    let wanted = is_field comment.accepts c.args.self.now c.args.number in
    reads_something comment c.args.self.now c.args.number wanted _ c.in_ok-text.ensures (sym c.is_empty.ensures ∙ c.if-is_empty.false) wanted _
    c.in_ok-some_text.ensures

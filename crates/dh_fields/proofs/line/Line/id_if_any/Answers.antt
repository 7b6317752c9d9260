use Rattle.std.proofs.Common.{false, sym, ◌∙◌}
use Rattle.dh_values.proofs.Ascii.{is_id-IsUtf8}
use Rattle.dh_fields.proofs.ReadFields.{stops, texts_or_nothing, reads_nothing, reads_something, stops_something}
use Rattle.dh_fields.specs.FieldKinds.{id, optional}
use Rattle.dh_fields.proofs.line.Line.id_if_any.Goals as goal

pub returns-in_err-text : goal.returns-in_err-text
unfolding id
returns-in_err-text c =
    stops (optional id) c.args.self.now c.args.number false (texts_or_nothing id is_id-IsUtf8) _ _ c.from_residual.ensures.1 c.in_err-text.ensures

pub returns-then-is_empty : goal.returns-then-is_empty
returns-then-is_empty c = reads_nothing id c.args.self.now c.args.number false _ c.in_ok-text.ensures (sym c.is_empty.ensures ∙ c.if-is_empty.true)

pub returns-in_err-id : goal.returns-in_err-id
returns-in_err-id c =
    stops_something id c.args.self.now c.args.number false _ c.in_ok-text.ensures false (λ h. h)
    (sym c.is_empty.ensures ∙ c.if-is_empty.false) _ _ c.from_residual-in_err-id.ensures.1
    c.in_err-id.ensures

pub returns : goal.returns
returns c =
    reads_something id c.args.self.now c.args.number false _ c.in_ok-text.ensures (sym c.is_empty.ensures ∙ c.if-is_empty.false) false _ c.in_ok-id.ensures

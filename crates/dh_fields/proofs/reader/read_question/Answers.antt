use Rattle.std.proofs.Common.{◌∙◌, ap, map}
use Rattle.dh_fields.specs.Lines.{question_forms, value_among}
use Rattle.dh_fields.proofs.Requests.{question_is}
use Rattle.dh_fields.proofs.reader.read_question.Goals as goal

pub returns-in-Ok : goal.returns-in-Ok
returns-in-Ok c =
    question_is (map (λ f. f.now) c.args.fields.now) c.requires _ (c.in-Ok.ensures ∙ ap (value_among question_forms 2) c.of_fields.ensures)

pub returns-in-Err-Field : goal.returns-in-Err-Field
returns-in-Err-Field c =
    let bad = rw c.in-Err-Field.field-0-is at c.in-Err-Field.ensures in
    question_is (map (λ f. f.now) c.args.fields.now) c.requires _ (bad ∙ ap (value_among question_forms 2) c.of_fields.ensures)

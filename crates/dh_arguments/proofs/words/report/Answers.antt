use Rattle.std.proofs.Common.{◌∙◌, ap, map, refl, sym}
use Rattle.clap.specs.Words.{found_of}
use Rattle.dh_fields.specs.Lines.{request_of}
use Rattle.dh_arguments.proofs.Answers.{fields_are, words_there}
use Rattle.dh_arguments.proofs.words.report.Goals as goal

pub unwrap-requires : goal.unwrap-requires
unwrap-requires c = words_there (found_of c.args.values.now) c.get_strs.result c.get_strs.ensures c.requires

pub read_question-requires : goal.read_question-requires
read_question-requires c = (_, ap (map (λ field. field.now)) c.deref.ensures.value ∙ c.in_ok-fields.ensures)

pub returns-in-Ok : goal.returns-in-Ok
returns-in-Ok c =
    let is = fields_are (found_of c.args.values.now) c.get_strs.result c.get_strs.ensures c.unwrap.result c.unwrap.ensures in
    let line = is ∙ sym (ap (map (λ field. field.now)) c.deref.ensures.value ∙ c.in_ok-fields.ensures) in
    (refl, ap request_of line ∙ sym c.in-Ok.ensures)

pub returns : goal.returns
returns c =
    let is = fields_are (found_of c.args.values.now) c.get_strs.result c.get_strs.ensures c.unwrap.result c.unwrap.ensures in
    let line = is ∙ sym (ap (map (λ field. field.now)) c.deref.ensures.value ∙ c.in_ok-fields.ensures) in
    ap request_of line ∙ sym c.in-Err.ensures

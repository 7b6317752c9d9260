use Rattle.std.proofs.Common.{ap, ◌∙◌}
use Rattle.std.proofs.lemmas.Result.{IfOk-weaker}
use Rattle.dh_http.specs.Answers.{json_answer}
use Rattle.dh_http.proofs.AnswerLemmas.{accepted_is}
use Rattle.dh_http.proofs.answers.replied.Goals as goal

pub returns : goal.returns
returns c =
    IfOk-weaker c.json.result _ _
    (λ it is. is ∙ ap (json_answer 200 0) (c.deref.ensures ∙ c.in_ok-text.ensures.ok) ∙ accepted_is c.args.reply c.in_default.not-Refused) c.json.ensures

use Rattle.std.proofs.Common.{◌∙◌}
use Rattle.dh_requests.proofs.Orders.{by_question}
use Rattle.dh_requests.proofs.verdict.judge_route.Goals as goal

pub returns-in_default-clause-asks : goal.returns-in_default-clause-asks
returns-in_default-clause-asks g c h at same =
    by_question c.args.route c.in_default.not-Commands h _ _ _ (c.of-method.ensures ∙ at.method) (c.as_bytes.ensures.value ∙ same)
    c.judge_question.ensures

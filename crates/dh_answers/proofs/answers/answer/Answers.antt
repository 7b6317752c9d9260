use Rattle.std.proofs.Common.{◌≡◌, ◌∙◌, sym, subst, IfOk}
use Rattle.dh_types.specs.Reports.{Report, report_of}
use Rattle.dh_answers.proofs.OpenRuns.{passed, refused}
use Rattle.dh_answers.proofs.answers.answer.Goals as goal

pub returns-in-Some : goal.returns-in-Some
returns-in-Some c = refused c.args.books c.args.question.now c.in-Some.refusal (sym c.open_refusal.ensures ∙ c.in-Some.is)

pub returns-in-None : goal.returns-in-None
returns-in-None c =
    subst (λ (r : Report). IfOk c.answer_passed.result (λ a. report_of a ≡ r))
    (passed c.args.books c.args.question.now (sym c.open_refusal.ensures ∙ c.in-None.is)) c.answer_passed.ensures

use Rattle.std.proofs.Common.{[], ◌∙◌, ap}
use Rattle.dh_types.specs.Reports.{report_of}
use Rattle.dh_http.specs.declared.answers.Content.TheVariants.{Report}
use Rattle.dh_http.proofs.AnswerLemmas.{filled, report_is}
use Rattle.dh_http.proofs.answers.reported.Goals as goal

pub returns : goal.returns
returns c =
    let body = filled _ _ _ c.new-body.ensures.items c.in_ok-write.ensures in
    ap (λ l. record { status = 200; content = Report; allow = []; body = l }) body ∙ report_is (report_of c.args.answer.now) c.requires

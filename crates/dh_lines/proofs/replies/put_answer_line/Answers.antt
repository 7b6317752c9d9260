use Rattle.std.proofs.Common.{subst}
use Rattle.dh_types.specs.Output.{Puts}
use Rattle.dh_types.specs.Reports.{report_of}
use Rattle.dh_reports.specs.ReportTexts.{line_count, report_text}
use Rattle.dh_reports.proofs.PartLemmas.{broke, goes_on}
use Rattle.dh_lines.specs.declared.replies.LineBody.TheVariants.{Shown}
use Rattle.dh_lines.specs.LineBodies.{body_line}
use Rattle.dh_lines.proofs.LineLemmas.{answer_is}
use Rattle.dh_lines.proofs.replies.put_answer_line.Goals as goal

pub returns-in_err-put_line : goal.returns-in_err-put_line
returns-in_err-put_line g c =
    let it = report_of c.args.answer.now in
    subst (Puts _ _ c.from_residual.result) (answer_is c.args.number c.args.answer.now c.in_default.not-Refused)
    (broke c.from_residual.result _ _ (body_line c.args.number (Shown (line_count it))) (report_text it) c.from_residual.ensures.0
    (rw c.lines.ensures at c.in_err-put_line.ensures))

pub returns : goal.returns
returns g c =
    let it = report_of c.args.answer.now in
    subst (Puts _ _ c.write.result) (answer_is c.args.number c.args.answer.now c.in_default.not-Refused)
    (goes_on c.write.result _ _ _ (body_line c.args.number (Shown (line_count it))) (report_text it)
    (rw c.lines.ensures at c.in_ok-put_line.ensures) c.write.ensures)

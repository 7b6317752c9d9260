use Rattle.std.proofs.Common.{None, Ok, arith, inl, refl, subst, sym}
use Rattle.dh_agency.specs.Agency.{IsClean, shown_by, stand}
use Rattle.dh_agency.specs.Requests.{is_question, said_in, says_no}
use Rattle.dh_jobs.specs.Ends.{Comes, Unprinted}
use Rattle.dh_jobs.specs.Jobs.{answered_so}
use Rattle.dh_jobs.specs.Printed.{IsAskEnd, Within, breaking}
use Rattle.dh_jobs.specs.Statuses.{IsEnding, ending}
use Rattle.dh_jobs.specs.Texts.{said_lines}
use Rattle.dh_jobs.proofs.FinishLemmas.{comes_finished, ending_is, prints_finished}
use Rattle.dh_jobs.proofs.jobs.ask.Goals as goal

pub returns-in-Err-outcome-clause-printed : goal.returns-in-Err-outcome-clause-printed
returns-in-Err-outcome-clause-printed g c =
    let it = said_in c.in-Ok.response in
    let none = says_no it in
    Within (said_lines it) (ending none None) (it, c.in-Ok.ensures.kind, refl, ending_is none None)
    (c.in-Err-outcome.output, refl, c.in-Err-outcome.ensures)

pub returns-in-Err-outcome-clause-ends : goal.returns-in-Err-outcome-clause-ends
returns-in-Err-outcome-clause-ends g c clean =
    inl (subst (λ it. Comes (shown_by g.S.Store c.respond_in_parts.new.agency) (g.W.Write.contents c.args.writer.now)
    (g.W.Write.contents c.print_response-outcome.new.writer) (answered_so it) (breaking c.in-Err-outcome.output))
    (sym (c.in-Ok.ensures.said clean)) (Unprinted (c.in-Err-outcome.output, refl, c.in-Err-outcome.ensures) refl))

pub returns-in_default-clause-printed : goal.returns-in_default-clause-printed
returns-in_default-clause-printed g c =
    let it = said_in c.in-Ok.response in
    prints_finished (shown_by g.S.Store c.respond_in_parts.new.agency) (shown_by g.S.Store c.finish.new.agency) _ _ _ c.is_refusal-is_refused.result
    c.finish.result (IsAskEnd (is_question (Ok c.args.request))) (said_lines it)
    (λ last ends. (it, c.in-Ok.ensures.kind, refl, subst (λ r. IsEnding r last) c.is_refusal-is_refused.ensures ends)) c.in_default.ensures
    c.finish.ensures.ends

pub returns-in_default-clause-ends : goal.returns-in_default-clause-ends
returns-in_default-clause-ends g c clean =
    let mid = c.respond_in_parts.new.agency in
    let early : IsClean g.S.Store mid = omega (arith, c.finish.ensures.was_clean) in
    inl (subst (λ it. Comes (shown_by g.S.Store c.finish.new.agency) (g.W.Write.contents c.args.writer.now) (g.W.Write.contents c.finish.new.writer)
    (answered_so it) c.finish.result) (sym (c.in-Ok.ensures.said early))
    (comes_finished (shown_by g.S.Store mid) (shown_by g.S.Store c.finish.new.agency) _ _ _ c.is_refusal-is_refused.result c.finish.result
    (answered_so (stand g.S.Store mid, said_in c.in-Ok.response)) c.is_refusal-is_refused.ensures c.in_default.ensures clean refl
    c.finish.ensures.ends))

use Rattle.std.proofs.Common.{◌≡◌, ◌∙◌, ℕ, IfOk, sym, ap, subst, arith}
use Rattle.sqlite.specs.State.{HasCleanDisk}
use Rattle.sqlite.specs.Held.{state}
use Rattle.dh_types.specs.declared.reply.Refusal.TheVariants.{RunOpen}
use Rattle.dh_types.specs.Reports.{NoReport, report_of}
use Rattle.dh_model.specs.Answers.{report}
use Rattle.dh_model.specs.Books.{State}
use Rattle.dh_schema.proofs.MonthsStay.{version_stays}
use Rattle.dh_store.proofs.PutOff.{none_there, refused_for}
use Rattle.dh_store.proofs.answers.answer_put_off.Goals as goal

pub answer_now-requires : goal.answer_now-requires
answer_now-requires g c =
    version_stays (λ early. let is = c.requires.ready early in (is.0, c.version.ensures ∙ is.1.2)) c.in_ok-found.ensures.reads

pub returns-in-Some-clause-answer : goal.returns-in-Some-clause-answer
returns-in-Some-clause-answer g c clean =
    ap (λ (month : ℕ). NoReport (RunOpen month)) c.month.ensures.value
    ∙ refused_for (state g.S.Store c.args.conn.now) c.in-Some.run' c.args.question.now (sym c.in-Some.is ∙ c.in_ok-found.ensures.found clean) c.requires.off

pub returns-in-None-clause-answer : goal.returns-in-None-clause-answer
returns-in-None-clause-answer g c clean =
    let old = state g.S.Store c.args.conn.now in
    let late : HasCleanDisk (state g.S.Store c.find_open_run.new.conn) = omega (arith, c.answer_now.ensures.reads.crash.clean, clean) in
    let same = (c.in_ok-found.ensures.reads.done late).1 in
    let free = ap (λ (t : State). t.open_run) same ∙ none_there old (sym c.in-None.is ∙ c.in_ok-found.ensures.found late) in
    subst (λ (t : State). IfOk c.answer_now.result (λ a. report_of a ≡ report t c.args.question.now)) same
    (c.answer_now.ensures.answer clean (λ off. free))

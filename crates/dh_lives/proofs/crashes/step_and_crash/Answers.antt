use Rattle.std.proofs.Common.{sym, subst}
use Rattle.sqlite.specs.Held.{Held, state}
use Rattle.dh_types.specs.declared.reply.Reply.{Reply}
use Rattle.dh_schema.specs.Store.{AreTables}
use Rattle.dh_runs.specs.Outcomes.{IsAnsweredBy}
use Rattle.dh_agency.specs.Agency.{machine}
use Rattle.dh_lives.specs.Calls.{StepInterrupted, Stepped, Tells}
use Rattle.dh_lives.specs.Histories.{IsFoundAfter}
use Rattle.dh_lives.proofs.Reopened.{if_ok, on_err, opened_anew, said_found}
use Rattle.dh_lives.proofs.crashes.step_and_crash.Goals as goal

pub returns-clause-answered : goal.returns-clause-answered
returns-clause-answered g c clean going =
    let old = c.args.agency.conn in
    let ended = c.into_store.result in
    let again = c.in_ok-again.again in
    let told = c.args.command.now in
    if_ok c.step_tells-told.result (λ (reply : Reply). Tells (Stepped told reply) (state g.S.Store old) (state g.S.Store c.step_tells-told.new.agency.conn))
    (λ (reply : Reply). IsFoundAfter g.S.Store old (Stepped told reply) again)
    (λ reply tells. opened_anew g.S.Store old ended again c.in_ok-again.ensures.found c.in_ok-again.ensures.lists c.in_ok-again.ensures.was_clean clean
    (Stepped told reply) c.step_tells-told.ensures.line
    (subst (λ (h : Held g.row.S.Denot). Tells (Stepped told reply) (state g.S.Store old) (state g.S.Store h)) (sym c.into_store.ensures) tells))
    (c.step_tells-told.ensures.answered going)

pub returns-clause-broken : goal.returns-clause-broken
returns-clause-broken g c clean going =
    let old = c.args.agency.conn in
    let ended = c.into_store.result in
    let again = c.in_ok-again.again in
    let told = c.args.command.now in
    on_err c.step_tells-told.result (Tells (StepInterrupted told) (state g.S.Store old) (state g.S.Store c.step_tells-told.new.agency.conn))
    (IsFoundAfter g.S.Store old (StepInterrupted told) again)
    (λ tells. opened_anew g.S.Store old ended again c.in_ok-again.ensures.found c.in_ok-again.ensures.lists c.in_ok-again.ensures.was_clean clean
    (StepInterrupted told) c.step_tells-told.ensures.line
    (subst (λ (h : Held g.row.S.Denot). Tells (StepInterrupted told) (state g.S.Store old) (state g.S.Store h)) (sym c.into_store.ensures) tells))
    (c.step_tells-told.ensures.cut going)

pub returns-clause-said : goal.returns-clause-said
returns-clause-said g c clean going =
    let old = c.args.agency.conn in
    let again = c.in_ok-again.again in
    let told = c.args.command.now in
    if_ok c.step_tells-told.result (λ (reply : Reply). IsFoundAfter g.S.Store old (Stepped told reply) again)
    (λ (reply : Reply). AreTables (IsAnsweredBy told reply (machine g.S.Store c.args.agency)) (state g.S.Store again).now.trees)
    (λ reply found. said_found g.S.Store old again told reply found)
    (returns-clause-answered g c clean going)

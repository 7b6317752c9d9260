use Rattle.std.proofs.Common.{OnErr, IfOk, arith, subst}
use Rattle.sqlite.specs.State.{HasCleanDisk}
use Rattle.sqlite.specs.Held.{state}
use Rattle.dh_types.specs.declared.command.Command.TheVariants as command
use Rattle.dh_model.specs.Books as machine
use Rattle.dh_schema.specs.Store.{IsReadyWith, Leaves, tables}
use Rattle.dh_laws.specs.Batches.{IsPostedInPart}
use Rattle.dh_laws.proofs.StandingLemmas.Batches.{same_in_part}
use Rattle.dh_runs.specs.Outcomes.{IsAnsweredBy, LeavesOneBatch, reply_of}
use Rattle.dh_runs.proofs.Carried.{on_err}
use Rattle.dh_runs.proofs.Stages.{rests_single}
use Rattle.dh_runs.proofs.batches.post_some.Goals as goal

pub returns-in_err-plan-clause-halted : goal.returns-in_err-plan-clause-halted
returns-in_err-plan-clause-halted g c clean is_open =
    let old = state g.S.Store c.args.conn.now in
    let new = state g.S.Store c.plan_run.new.conn in
    let it = c.in_err-plan.ensures.undone clean is_open in
    on_err c.from_residual.result (it.0, same_in_part c.args.most (tables old) (tables new) it.1)

pub returns-in_err-plan-clause-single : goal.returns-in_err-plan-clause-single
returns-in_err-plan-clause-single g c clean =
    on_err c.from_residual.result
    (rests_single c.args.most (tables (state g.S.Store c.args.conn.now)) (state g.S.Store c.plan_run.new.conn) (c.plan_run.ensures.crash clean))

pub returns-in-Some-clause-single : goal.returns-in-Some-clause-single
returns-in-Some-clause-single g c clean =
    let mid = state g.S.Store c.plan_run.new.conn in
    let new = state g.S.Store c.post_planned.new.conn in
    let early : HasCleanDisk mid = omega (arith, c.post_planned.ensures.was_clean, clean) in
    let same = (c.in_ok-plan.ensures.done early).1 in
    subst (λ (t : machine.State). OnErr c.post_planned.result (LeavesOneBatch c.args.most t new)) same (c.post_planned.ensures.single clean)

pub returns-in-Some-clause-said : goal.returns-in-Some-clause-said
returns-in-Some-clause-said g c clean =
    let mid = state g.S.Store c.plan_run.new.conn in
    let new = state g.S.Store c.post_planned.new.conn in
    let early : HasCleanDisk mid = omega (arith, c.post_planned.ensures.was_clean, clean) in
    let same = (c.in_ok-plan.ensures.done early).1 in
    subst (λ (t : machine.State). IfOk c.post_planned.result (λ it. IsAnsweredBy (command.Post c.args.most) (reply_of it) t (tables new))) same
    (c.post_planned.ensures.said clean)

pub returns-in-Some-clause-crash : goal.returns-in-Some-clause-crash
returns-in-Some-clause-crash g c clean =
    let mid = state g.S.Store c.plan_run.new.conn in
    let new = state g.S.Store c.post_planned.new.conn in
    let early : HasCleanDisk mid = omega (arith, c.post_planned.ensures.was_clean, clean) in
    let same = (c.in_ok-plan.ensures.done early).1 in
    subst (λ (t : machine.State). Leaves new (IsPostedInPart c.args.most t)) same (c.post_planned.ensures.crash clean)

pub returns-in-Some-clause-halted : goal.returns-in-Some-clause-halted
returns-in-Some-clause-halted g c clean is_open =
    let mid = state g.S.Store c.plan_run.new.conn in
    let new = state g.S.Store c.post_planned.new.conn in
    let early : HasCleanDisk mid = omega (arith, c.post_planned.ensures.was_clean, clean) in
    let same = (c.in_ok-plan.ensures.done early).1 in
    subst (λ (t : machine.State). OnErr c.post_planned.result (IsReadyWith new (IsPostedInPart c.args.most t))) same
    (c.post_planned.ensures.halted clean is_open)

use Rattle.std.proofs.Common.{◌≡◌, ◌∙◌, ◌⊎◌, ap, arith, inl, inr, subst, sym}
use Rattle.sqlite.specs.State.{HasCleanDisk}
use Rattle.sqlite.specs.Held.{state}
use Rattle.dh_model.specs.Books.{State}
use Rattle.dh_types.specs.declared.command.Command.TheVariants as command
use Rattle.dh_laws.proofs.CommandLemmas.Carried.{same_cut}
use Rattle.dh_laws.proofs.StandingLemmas.Batches.{same_in_part}
use Rattle.dh_schema.proofs.Crashing.{unchanged_leaves}
use Rattle.dh_schema.specs.Store.{Leaves, tables}
use Rattle.dh_runs.proofs.RunFound.{run_is_found}
use Rattle.dh_runs.proofs.Along.{in_order, leaves_weaker}
use Rattle.dh_runs.proofs.Carried.{begins, on_err, opening_crash, posted_said, posting_crash, posting_cut}
use Rattle.dh_runs.proofs.Stages.{from_opened, rests_single}
use Rattle.dh_runs.proofs.batches.run_all.Goals as goal

-- ---- the opening

pub open_run-requires-clause-verdict : goal.open_run-requires-clause-verdict
open_run-requires-clause-verdict g c was = (c.args.order.now, c.requires.verdict was)

pub returns-in_err-open_run-clause-crash : goal.returns-in_err-open_run-clause-crash
returns-in_err-open_run-clause-crash g c clean =
    let old = state g.S.Store c.args.conn.now in
    let was : HasCleanDisk old = omega (arith, clean, c.open_run.ensures.steps.was_clean) in
    opening_crash c.args.order.now c.args.opening.now (tables old) (c.requires.verdict was) (c.requires.none was) (in_order old (c.requires.ready was).0)
    (state g.S.Store c.open_run.new.conn) (c.open_run.ensures.steps.crash clean)

pub returns-in_err-open_run-clause-halted : goal.returns-in_err-open_run-clause-halted
returns-in_err-open_run-clause-halted g c clean is_open =
    let old = state g.S.Store c.args.conn.now in
    let new = state g.S.Store c.open_run.new.conn in
    let it = c.in_err-open_run.ensures.steps.undone clean is_open in
    on_err c.from_residual.result (it.0, same_cut (command.Run c.args.order.now) (tables old) (tables new) it.1)

pub returns-in_err-open_run-clause-single : goal.returns-in_err-open_run-clause-single
returns-in_err-open_run-clause-single g c clean =
    let old = state g.S.Store c.args.conn.now in
    let new = state g.S.Store c.open_run.new.conn in
    let was : HasCleanDisk old = omega (arith, clean, c.open_run.ensures.steps.was_clean) in
    on_err c.from_residual.result
    (inl (subst (λ (o : State). Leaves new (λ t. (t ≡ tables old) ⊎ (t ≡ o))) (begins c.args.order.now c.args.opening.now (tables old) (c.requires.verdict was))
    (c.open_run.ensures.steps.crash clean)))

-- ---- the plan

pub plan_open-requires-clause-ready : goal.plan_open-requires-clause-ready
plan_open-requires-clause-ready g c between =
    let old = state g.S.Store c.args.conn.now in
    let was : HasCleanDisk old = omega (arith, between, c.open_run.ensures.steps.was_clean) in
    let done = c.in_ok-open_run.ensures.steps.done between in
    let is = done.1 ∙ begins c.args.order.now c.args.opening.now (tables old) (c.requires.verdict was) in
    (done.0, (c.requires.ready was).1 ∙ sym (ap (λ (t : State). t.books.version) is))

pub plan_open-requires-clause-run : goal.plan_open-requires-clause-run
plan_open-requires-clause-run g c between =
    let old = state g.S.Store c.args.conn.now in
    let was : HasCleanDisk old = omega (arith, between, c.open_run.ensures.steps.was_clean) in
    let done = c.in_ok-open_run.ensures.steps.done between in
    ap (λ (t : State). t.open_run) (done.1 ∙ begins c.args.order.now c.args.opening.now (tables old) (c.requires.verdict was))

pub returns-in_err-plan-clause-crash : goal.returns-in_err-plan-clause-crash
returns-in_err-plan-clause-crash g c clean =
    let old = state g.S.Store c.args.conn.now in
    let opened = c.open_run.new.conn in
    let new = state g.S.Store c.plan_open.new.conn in
    let between : HasCleanDisk (state g.S.Store opened) = omega (arith, clean, c.plan_open.ensures.reads.crash.clean) in
    let was : HasCleanDisk old = omega (arith, between, c.open_run.ensures.steps.was_clean) in
    let done = c.in_ok-open_run.ensures.steps.done between in
    let t = tables (state g.S.Store opened) in
    let left = unchanged_leaves (state g.S.Store opened) new (g.met.S.Store.settled opened.store) done.0 clean c.plan_open.ensures.reads.crash in
    posting_crash c.args.order.now c.args.opening.now (tables old) (c.requires.verdict was) (c.requires.none was) (in_order old (c.requires.ready was).0)
    0 t new done.1 (leaves_weaker new _ _ (λ it is. same_in_part 0 t it is) left)

pub returns-in_err-plan-clause-halted : goal.returns-in_err-plan-clause-halted
returns-in_err-plan-clause-halted g c clean is_open =
    let old = state g.S.Store c.args.conn.now in
    let opened = state g.S.Store c.open_run.new.conn in
    let new = state g.S.Store c.plan_open.new.conn in
    let between : HasCleanDisk opened = omega (arith, clean, c.plan_open.ensures.reads.crash.clean) in
    let was : HasCleanDisk old = omega (arith, between, c.open_run.ensures.steps.was_clean) in
    let it = c.plan_open.ensures.reads.kept clean is_open in
    on_err c.from_residual-in_err-plan.result (
      it.0,
      posting_cut c.args.order.now c.args.opening.now (tables old) (c.requires.verdict was) (c.requires.none was) (in_order old (c.requires.ready was).0)
          0 (tables opened) (tables new) (c.in_ok-open_run.ensures.steps.done between).1 (same_in_part 0 (tables opened) (tables new) it.1),
    )

pub returns-in_err-plan-clause-single : goal.returns-in_err-plan-clause-single
returns-in_err-plan-clause-single g c clean =
    let old = state g.S.Store c.args.conn.now in
    let opened = c.open_run.new.conn in
    let new = state g.S.Store c.plan_open.new.conn in
    let between : HasCleanDisk (state g.S.Store opened) = omega (arith, clean, c.plan_open.ensures.reads.crash.clean) in
    let was : HasCleanDisk old = omega (arith, between, c.open_run.ensures.steps.was_clean) in
    let done = c.in_ok-open_run.ensures.steps.done between in
    let left = unchanged_leaves (state g.S.Store opened) new (g.met.S.Store.settled opened.store) done.0 clean c.plan_open.ensures.reads.crash in
    let is = done.1 ∙ begins c.args.order.now c.args.opening.now (tables old) (c.requires.verdict was) in
    on_err c.from_residual-in_err-plan.result (inr (from_opened 0 _ _ new is (rests_single 0 (tables (state g.S.Store opened)) new left)))

-- ---- the batches

pub returns-in_err-sum-clause-crash : goal.returns-in_err-sum-clause-crash
returns-in_err-sum-clause-crash g c clean =
    let old = state g.S.Store c.args.conn.now in
    let planned : HasCleanDisk (state g.S.Store c.plan_open.new.conn) = omega (arith, clean, c.post_planned.ensures.was_clean) in
    let between : HasCleanDisk (state g.S.Store c.open_run.new.conn) = omega (arith, planned, c.plan_open.ensures.reads.crash.clean) in
    let was : HasCleanDisk old = omega (arith, between, c.open_run.ensures.steps.was_clean) in
    posting_crash c.args.order.now c.args.opening.now (tables old) (c.requires.verdict was) (c.requires.none was) (in_order old (c.requires.ready was).0)
    _ (tables (state g.S.Store c.plan_open.new.conn)) (state g.S.Store c.post_planned.new.conn)
    ((c.in_ok-plan.ensures.reads.done planned).1 ∙ (c.in_ok-open_run.ensures.steps.done between).1) (c.post_planned.ensures.crash clean)

pub returns-in_err-sum-clause-halted : goal.returns-in_err-sum-clause-halted
returns-in_err-sum-clause-halted g c clean is_open =
    let old = state g.S.Store c.args.conn.now in
    let planned : HasCleanDisk (state g.S.Store c.plan_open.new.conn) = omega (arith, clean, c.post_planned.ensures.was_clean) in
    let between : HasCleanDisk (state g.S.Store c.open_run.new.conn) = omega (arith, planned, c.plan_open.ensures.reads.crash.clean) in
    let was : HasCleanDisk old = omega (arith, between, c.open_run.ensures.steps.was_clean) in
    let it = c.in_err-sum.ensures.halted clean is_open in
    on_err c.from_residual-in_err-sum.result (
      it.0,
      posting_cut c.args.order.now c.args.opening.now (tables old) (c.requires.verdict was) (c.requires.none was) (in_order old (c.requires.ready was).0)
          _ (tables (state g.S.Store c.plan_open.new.conn)) (tables (state g.S.Store c.post_planned.new.conn))
          ((c.in_ok-plan.ensures.reads.done planned).1 ∙ (c.in_ok-open_run.ensures.steps.done between).1) it.1,
    )

pub returns-in_err-sum-clause-single : goal.returns-in_err-sum-clause-single
returns-in_err-sum-clause-single g c clean =
    let old = state g.S.Store c.args.conn.now in
    let new = state g.S.Store c.post_planned.new.conn in
    let planned : HasCleanDisk (state g.S.Store c.plan_open.new.conn) = omega (arith, clean, c.post_planned.ensures.was_clean) in
    let between : HasCleanDisk (state g.S.Store c.open_run.new.conn) = omega (arith, planned, c.plan_open.ensures.reads.crash.clean) in
    let was : HasCleanDisk old = omega (arith, between, c.open_run.ensures.steps.was_clean) in
    let is = (c.in_ok-plan.ensures.reads.done planned).1 ∙ (c.in_ok-open_run.ensures.steps.done between).1
    ∙ begins c.args.order.now c.args.opening.now (tables old) (c.requires.verdict was) in
    on_err c.from_residual-in_err-sum.result (inr (from_opened _ _ _ new is (c.in_err-sum.ensures.single clean)))

pub returns-in-Posted-clause-crash : goal.returns-in-Posted-clause-crash
returns-in-Posted-clause-crash g c clean =
    let old = state g.S.Store c.args.conn.now in
    let planned : HasCleanDisk (state g.S.Store c.plan_open.new.conn) = omega (arith, clean, c.post_planned.ensures.was_clean) in
    let between : HasCleanDisk (state g.S.Store c.open_run.new.conn) = omega (arith, planned, c.plan_open.ensures.reads.crash.clean) in
    let was : HasCleanDisk old = omega (arith, between, c.open_run.ensures.steps.was_clean) in
    posting_crash c.args.order.now c.args.opening.now (tables old) (c.requires.verdict was) (c.requires.none was) (in_order old (c.requires.ready was).0)
    _ (tables (state g.S.Store c.plan_open.new.conn)) (state g.S.Store c.post_planned.new.conn)
    ((c.in_ok-plan.ensures.reads.done planned).1 ∙ (c.in_ok-open_run.ensures.steps.done between).1) (c.post_planned.ensures.crash clean)

pub returns-in-Posted-clause-said : goal.returns-in-Posted-clause-said
returns-in-Posted-clause-said g c clean =
    let old = state g.S.Store c.args.conn.now in
    let planned : HasCleanDisk (state g.S.Store c.plan_open.new.conn) = omega (arith, clean, c.post_planned.ensures.was_clean) in
    let between : HasCleanDisk (state g.S.Store c.open_run.new.conn) = omega (arith, planned, c.plan_open.ensures.reads.crash.clean) in
    let was : HasCleanDisk old = omega (arith, between, c.open_run.ensures.steps.was_clean) in
    posted_said c.args.order.now c.args.opening.now (tables old) (c.requires.verdict was) (c.requires.none was) (in_order old (c.requires.ready was).0)
    _ c.in_ok-sum.field-0 c.in-Posted.sum (tables (state g.S.Store c.plan_open.new.conn)) (tables (state g.S.Store c.post_planned.new.conn))
    ((c.in_ok-plan.ensures.reads.done planned).1 ∙ (c.in_ok-open_run.ensures.steps.done between).1) c.in-Posted.is (c.in_ok-sum.ensures.said clean)

pub unclean-requires : goal.unclean-requires
unclean-requires g c clean =
    let old = state g.S.Store c.args.conn.now in
    let planned : HasCleanDisk (state g.S.Store c.plan_open.new.conn) = omega (arith, clean, c.post_planned.ensures.was_clean) in
    let between : HasCleanDisk (state g.S.Store c.open_run.new.conn) = omega (arith, planned, c.plan_open.ensures.reads.crash.clean) in
    let was : HasCleanDisk old = omega (arith, between, c.open_run.ensures.steps.was_clean) in
    let is = (c.in_ok-plan.ensures.reads.done planned).1 ∙ (c.in_ok-open_run.ensures.steps.done between).1
    ∙ begins c.args.order.now c.args.opening.now (tables old) (c.requires.verdict was) in
    run_is_found _ (tables (state g.S.Store c.plan_open.new.conn)) (tables (state g.S.Store c.post_planned.new.conn)) _ c.in_ok-sum.field-0
    (ap (λ (t : State). t.open_run) is) c.in-NoRun.is (c.in_ok-sum.ensures.said clean)

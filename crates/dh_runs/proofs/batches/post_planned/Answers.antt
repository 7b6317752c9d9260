use Rattle.std.proofs.Common.{◌-◌, ◌+◌, ◌≤◌, ◌<◌, ap, length, arith}
use Rattle.std.proofs.lemmas.List.{length-take}
use Rattle.sqlite.specs.Held.{state}
use Rattle.dh_runs.proofs.Along.{ends_at}
use Rattle.dh_runs.proofs.Carried.{on_err}
use Rattle.dh_runs.proofs.Stages.{end_single, in_front, planned_first, planned_next, progress, rows_are_new, rows_begun, rows_crash, rows_in_order, rows_single}
use Rattle.dh_runs.proofs.batches.post_planned.Goals as goal

pub loop-rows-init : goal.loop-rows-init
loop-rows-init g c = planned_first (state g.S.Store c.args.conn.now) c.args.plan.now c.requires.ready c.requires.planned

pub commit-requires-clause-order : goal.commit-requires-clause-order
commit-requires-clause-order g c =
    let n = c.loop-rows.rows-index in
    let rows = c.rows-item.result in
    let here = in_front c.args.plan.now.batches.items c.deref.result.now c.min-count.result n rows c.deref.ensures.value c.loop-rows-test.true c.rows-item.is in
    rows_in_order (state g.S.Store c.args.conn.now) c.args.plan.now (state g.S.Store c.loop-rows.conn) n c.loop-rows.invariant c.requires.ready rows here.1
    here.2

pub commit-requires-clause-room : goal.commit-requires-clause-room
commit-requires-clause-room g c clean =
    let old = state g.S.Store c.args.conn.now in
    let now = state g.S.Store c.loop-rows.conn in
    let n = c.loop-rows.rows-index in
    let rows = c.rows-item.result in
    let here = in_front c.args.plan.now.batches.items c.deref.result.now c.min-count.result n rows c.deref.ensures.value
    c.loop-rows-test.true c.rows-item.is in (
      rows_are_new old c.args.plan.now now n c.loop-rows.invariant c.requires.ready rows here.1 here.2 clean,
      rows_begun old c.args.plan.now now n c.loop-rows.invariant c.requires.ready rows here.1 here.2 clean,
    )

pub returns-in_err-commit-clause-crash : goal.returns-in_err-commit-clause-crash
returns-in_err-commit-clause-crash g c =
    let n = c.loop-rows.rows-index in
    let rows = c.rows-item.result in
    let here = in_front c.args.plan.now.batches.items c.deref.result.now c.min-count.result n rows c.deref.ensures.value c.loop-rows-test.true c.rows-item.is in
    let low = here.0 in
    let less : n < c.args.most = omega arith in
    rows_crash (state g.S.Store c.args.conn.now) c.args.plan.now (state g.S.Store c.loop-rows.conn) n c.loop-rows.invariant c.requires.ready rows here.1
    here.2 c.args.most (state g.S.Store c.commit.new.conn) less c.commit.ensures.steps.was_clean c.commit.ensures.steps.crash

pub returns-in_err-commit-clause-single : goal.returns-in_err-commit-clause-single
returns-in_err-commit-clause-single g c clean =
    let n = c.loop-rows.rows-index in
    let rows = c.rows-item.result in
    let here = in_front c.args.plan.now.batches.items c.deref.result.now c.min-count.result n rows c.deref.ensures.value c.loop-rows-test.true c.rows-item.is in
    let low = here.0 in
    let less : n < c.args.most = omega arith in
    on_err c.from_residual.result
    (rows_single (state g.S.Store c.args.conn.now) c.args.plan.now (state g.S.Store c.loop-rows.conn) n c.loop-rows.invariant c.requires.ready rows here.1
    here.2 c.args.most (state g.S.Store c.commit.new.conn) less c.commit.ensures.steps.was_clean c.commit.ensures.steps.crash clean)

pub loop-rows-preserved : goal.loop-rows-preserved
loop-rows-preserved g c =
    let n = c.loop-rows.rows-index in
    let rows = c.rows-item.result in
    let here = in_front c.args.plan.now.batches.items c.deref.result.now c.min-count.result n rows c.deref.ensures.value c.loop-rows-test.true c.rows-item.is in
    planned_next (state g.S.Store c.args.conn.now) c.args.plan.now (state g.S.Store c.loop-rows.conn) n c.loop-rows.invariant c.requires.ready rows here.1
    here.2 (state g.S.Store c.commit.new.conn) c.commit.ensures.steps.was_clean c.in_ok-commit.ensures.steps.done

pub close_month-requires-clause-end : goal.close_month-requires-clause-end
close_month-requires-clause-end g c =
    let plan = c.args.plan.now in
    let given = length-take c.min-count.result c.deref.result.now in
    let same = ap length c.deref.ensures.value in
    let all : plan.done + length plan.batches.items - plan.done ≤ c.loop-rows.rows-index = omega (arith, given, same) in
    ends_at (state g.S.Store c.args.conn.now) (progress plan) (state g.S.Store c.loop-rows.conn) c.loop-rows.rows-index c.loop-rows.invariant.along all

pub returns-in_err-close_month-clause-single : goal.returns-in_err-close_month-clause-single
returns-in_err-close_month-clause-single g c clean =
    let plan = c.args.plan.now in
    let n = c.loop-rows.rows-index in
    let given = length-take c.min-count.result c.deref.result.now in
    let same = ap length c.deref.ensures.value in
    let all : length plan.batches.items ≤ n = omega (arith, given, same) in
    let less : n ≤ c.args.most = omega (arith, given) in
    on_err c.from_residual-in_err-close_month.result
    (end_single (state g.S.Store c.args.conn.now) plan (state g.S.Store c.loop-rows.conn) n c.args.most (state g.S.Store c.close_month.new.conn)
    c.loop-rows.invariant less all c.close_month.ensures.steps.was_clean c.close_month.ensures.steps.crash clean)

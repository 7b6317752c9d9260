use Rattle.std.proofs.Common.{◌∙◌, arith}
use Rattle.sqlite.specs.State.{HasCleanDisk}
use Rattle.sqlite.specs.Held.{state}
use Rattle.dh_schema.proofs.Crashing.{survives_both, unchanged_leaves}
use Rattle.dh_schema.proofs.MonthsStay.{months_stay, version_stays}
use Rattle.dh_runs.proofs.plan.plan_run.Goals as goal

pub run_now-requires : goal.run_now-requires
run_now-requires g c clean =
    months_stay c.in_ok-months.months (state g.S.Store c.args.conn.now) (state g.S.Store c.months_now.new.conn) (c.in_ok-months.ensures.found clean)
    (c.in_ok-months.ensures.reads.done clean)

pub plan_open-requires-clause-ready : goal.plan_open-requires-clause-ready
plan_open-requires-clause-ready g c =
    let old = state g.S.Store c.args.conn.now in
    let one = state g.S.Store c.months_now.new.conn in
    version_stays (λ clean.
    let is = months_stay c.in_ok-months.months old one (c.in_ok-months.ensures.found clean) (c.in_ok-months.ensures.reads.done clean) in
    (is.0, c.version.ensures ∙ is.1.2)) c.in_ok-run.ensures.reads

pub returns-in_err-run-clause-crash : goal.returns-in_err-run-clause-crash
returns-in_err-run-clause-crash g c clean =
    let old = state g.S.Store c.args.conn.now in
    let one = state g.S.Store c.months_now.new.conn in
    let new = state g.S.Store c.run_now.new.conn in
    let crash = survives_both old one new c.months_now.ensures.reads.crash c.run_now.ensures.reads.crash in
    let early : HasCleanDisk old = omega (arith, crash.clean, clean) in
    unchanged_leaves old new (g.met.S.Store.settled c.args.conn.now.store) (c.requires early) clean crash

pub returns-in_err-plan_open-in-Some-clause-crash : goal.returns-in_err-plan_open-in-Some-clause-crash
returns-in_err-plan_open-in-Some-clause-crash g c clean =
    let old = state g.S.Store c.args.conn.now in
    let one = state g.S.Store c.months_now.new.conn in
    let two = state g.S.Store c.run_now.new.conn in
    let new = state g.S.Store c.plan_open.new.conn in
    let both = survives_both old one two c.months_now.ensures.reads.crash c.run_now.ensures.reads.crash in
    let crash = survives_both old two new both c.plan_open.ensures.reads.crash in
    let early : HasCleanDisk old = omega (arith, crash.clean, clean) in
    unchanged_leaves old new (g.met.S.Store.settled c.args.conn.now.store) (c.requires early) clean crash

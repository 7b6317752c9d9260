use Rattle.std.proofs.Common.{refl, sym, subst, arith, Option}
use Rattle.sqlite.specs.State.{HasCleanDisk}
use Rattle.sqlite.specs.Held.{state}
use Rattle.dh_model.specs.declared.open_run.OpenRun.{OpenRun}
use Rattle.dh_model.specs.Books.{State}
use Rattle.dh_laws.specs.Batches.{IsAtItsEnd, closed_state}
use Rattle.dh_laws.specs.StateTables.{IsStateInOrder}
use Rattle.dh_schema.specs.Store.{tables}
use Rattle.dh_runs.specs.Closing.{IsSumOfOpen}
use Rattle.dh_runs.proofs.Along.{in_order}
use Rattle.dh_runs.proofs.ClosedRun.{closed_in_order, sum_is_open_run_sum, sum_of_open}
use Rattle.dh_runs.proofs.run_end.close_month.Goals as goal

pub commit-requires-clause-order : goal.commit-requires-clause-order
commit-requires-clause-order g c mid =
    let old = state g.S.Store c.args.conn.now in
    let early : HasCleanDisk old = omega (arith, c.month_sum.ensures.reads.crash.clean, mid) in
    let at_end = subst (λ (run : Option OpenRun). IsAtItsEnd (tables old).books run) (sym (c.requires.end early)) refl in
    subst (λ (t : State). IsStateInOrder (closed_state t)) (sym (c.in_ok-sum.ensures.reads.done mid).1)
    (closed_in_order (tables old) (in_order old (c.requires.ready early)) at_end)

pub commit-requires-clause-room : goal.commit-requires-clause-room
commit-requires-clause-room g c mid =
    let old = state g.S.Store c.args.conn.now in
    let sum = c.in_ok-sum.sum in
    let early : HasCleanDisk old = omega (arith, c.month_sum.ensures.reads.crash.clean, mid) in
    let order = in_order old (c.requires.ready early) in
    let end = c.requires.end early in
    let at_end = subst (λ (run : Option OpenRun). IsAtItsEnd (tables old).books run) (sym end) refl in
    subst (λ (t : State). IsStateInOrder t × IsAtItsEnd t.books t.open_run × IsSumOfOpen sum t.books) (sym (c.in_ok-sum.ensures.reads.done mid).1)
    (order, at_end, sum_of_open (tables old) c.args.month sum order end (c.in_ok-sum.ensures.value mid))

pub returns-clause-value : goal.returns-clause-value
returns-clause-value g c clean =
    let old = state g.S.Store c.args.conn.now in
    let mid : HasCleanDisk (state g.S.Store c.month_sum.new.conn) = omega (arith, c.commit.ensures.steps.was_clean, clean) in
    let early : HasCleanDisk old = omega (arith, c.month_sum.ensures.reads.crash.clean, mid) in
    let order = in_order old (c.requires.ready early) in
    let end = c.requires.end early in
    let at_end = subst (λ (run : Option OpenRun). IsAtItsEnd (tables old).books run) (sym end) refl in
    sum_is_open_run_sum (tables old).books _ (sum_of_open (tables old) c.args.month _ order end (c.in_ok-sum.ensures.value mid)) (tables old).open_run at_end
    order

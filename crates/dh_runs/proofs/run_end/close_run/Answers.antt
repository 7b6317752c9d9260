use Rattle.std.proofs.Common.{◌≡◌, sym, subst, arith, Some}
use Rattle.sqlite.specs.State.{HasCleanDisk}
use Rattle.sqlite.specs.Held.{state}
use Rattle.dh_model.specs.Books.{State}
use Rattle.dh_model.specs.Runs.{batch_size, batches}
use Rattle.dh_schema.specs.Store.{tables}
use Rattle.dh_runs.proofs.Along.{in_order}
use Rattle.dh_runs.proofs.ClosedRun.{at_end_of, under_way}
use Rattle.dh_runs.proofs.run_end.close_run.Goals as goal

pub close_month-requires-clause-end : goal.close_month-requires-clause-end
close_month-requires-clause-end g c mid =
    let old = state g.S.Store c.args.conn.now in
    let early : HasCleanDisk old = omega (arith, c.open_month.ensures.reads.crash.clean, mid) in
    let same = (c.in_ok-month.ensures.reads.done mid).1 in
    let t = tables old in
    subst (λ (now : State). now.open_run ≡ Some (record { month = c.in_ok-month.month; done = batches batch_size now.books c.in_ok-month.month })) (sym same)
    (at_end_of t.books t.open_run c.in_ok-month.month (c.in_ok-month.ensures.value mid) (c.requires.end early) (in_order old (c.requires.ready early)))

pub open_month-requires-clause-run : goal.open_month-requires-clause-run
open_month-requires-clause-run g c clean =
    let t = tables (state g.S.Store c.args.conn.now) in
    under_way t.books t.open_run (c.requires.end clean)

use Rattle.std.proofs.Common.{ℕ, Err, OnOk, subst, arith}
use Rattle.std.proofs.lemmas.Result.{err_from_is_err_and}
use Rattle.sqlite.specs.State.{HasCleanDisk}
use Rattle.sqlite.specs.Held.{state}
use Rattle.dh_tables.specs.MetaTable.{SetsNext}
use Rattle.dh_model.specs.Kinds.{Runs}
use Rattle.dh_schema.proofs.Putting.{keeps_commit, puts_none, opened, put_in}
use Rattle.dh_schema.proofs.changes.put_run.Goals as goal

pub insert-requires-clause-kept : goal.insert-requires-clause-kept
insert-requires-clause-kept g c clean = ((c.requires.writing clean).in_order.tables Runs tt).kept

pub insert-requires-clause-fresh : goal.insert-requires-clause-fresh
insert-requires-clause-fresh g c clean = c.requires.fresh clean

pub set_next_month-requires-clause-writing : goal.set_next_month-requires-clause-writing
set_next_month-requires-clause-writing g c clean =
    let it = c.in_ok-insert.ensures.writing clean in
    record { inside = it.inside; has = it.schema }

pub set_next_month-requires-clause-there : goal.set_next_month-requires-clause-there
set_next_month-requires-clause-there g c clean =
    let old = state g.S.Store c.args.tx.now.conn.now in
    let mid = state g.S.Store c.insert.new.tx.conn.now in
    let early : HasCleanDisk old = omega (arith, c.insert.ensures.crash.clean, clean) in
    let row = c.in_ok-insert.ensures in
    let done = put_in Runs _ old mid tt (c.requires.writing early) (row.shown clean) (row.added clean) in
    (done.0.in_order.months, done.0.in_order.meta)

pub returns-in_err-insert-clause-puts : goal.returns-in_err-insert-clause-puts
returns-in_err-insert-clause-puts g c =
    let is = err_from_is_err_and c.from_residual.result c.from_residual.ensures.1 in
    let old = state g.S.Store c.args.tx.now.conn.now in
    let new = state g.S.Store c.insert.new.tx.conn.now in
    puts_none is.1 (λ clean. keeps_commit {X = Unit {0}} (Err is.0) old new tt (c.in_err-insert.ensures.undone clean)) c.insert.ensures.crash

pub returns-clause-puts : goal.returns-clause-puts
returns-clause-puts g c =
    let mid = state g.S.Store c.insert.new.tx.conn.now in
    let new = state g.S.Store c.set_next_month.new.tx.conn.now in
    let row = c.in_ok-insert.ensures in
    let next = c.set_next_month.ensures in
    let set =
    subst (λ (n : ℕ). HasCleanDisk new → OnOk c.set_next_month.result (SetsNext n mid new)) c.month_after.ensures.value next.set in
    opened c.args.run.now (state g.S.Store c.args.tx.now.conn.now) mid new c.set_next_month.result c.requires.writing row.shown row.added c.insert.ensures.crash
    next.shown set next.undone next.crash

use Rattle.std.proofs.Common.{arith, subst, sym}
use Rattle.sqlite.specs.State.{HasCleanDisk}
use Rattle.sqlite.specs.Held.{state}
use Rattle.dh_schema.specs.Store.{tables}
use Rattle.dh_runs.specs.Batches.{HasRoom}
use Rattle.dh_runs.proofs.Along.{in_order}
use Rattle.dh_runs.proofs.plan.plan_open.Goals as goal

pub returns-clause-value : goal.returns-clause-value
returns-clause-value g c clean =
    let old = state g.S.Store c.args.conn.now in
    let early : HasCleanDisk old = omega (arith, c.books_of_leases.ensures.reads.crash.clean, clean) in
    c.in_ok-plan_of.ensures.plan (tables old) (in_order old (c.requires.ready early).0) (c.requires.run early) (c.in_ok-books.ensures.gathered clean)

pub returns-clause-postable : goal.returns-clause-postable
returns-clause-postable g c = (subst HasRoom (sym c.in_ok-plan_of.ensures.done) c.requires.room, c.in_ok-plan_of.ensures.in_time)

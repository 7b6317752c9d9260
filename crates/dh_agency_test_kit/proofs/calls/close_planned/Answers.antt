use Rattle.std.proofs.Common.{sym, subst, arith}
use Rattle.sqlite.specs.Held.{state}
use Rattle.dh_laws.specs.Batches.{IsAtItsEnd}
use Rattle.dh_leases.proofs.Leading.{counted}
use Rattle.dh_schema.specs.Store.{tables}
use Rattle.dh_agency_test_kit.proofs.calls.close_planned.Goals as goal

pub close_run-requires-clause-end : goal.close_run-requires-clause-end
close_run-requires-clause-end g c clean =
    let old = tables (state g.S.Store c.args.conn.now) in
    let is = c.requires.planned clean in
    let count = counted c.args.plan.now old is in
    subst (λ it. IsAtItsEnd old.books it) (sym is.shown) (omega (arith, count, c.requires.none_left))

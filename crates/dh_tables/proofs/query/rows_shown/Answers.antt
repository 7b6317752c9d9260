use Rattle.std.proofs.Common.{refl, arith}
use Rattle.sqlite.specs.State.{HasCleanDisk}
use Rattle.sqlite.specs.Values.{bound}
use Rattle.sqlite.specs.Held.{state}
use Rattle.dh_sql.proofs.Selecting.{commits_none, plain_same, plain_undone}
use Rattle.dh_tables.proofs.Corrupt.{failed_err}
use Rattle.dh_tables.proofs.Undone.{undone_from}
use Rattle.dh_tables.proofs.query.rows_shown.Goals as goal

pub returns-clause-same : goal.returns-clause-same
returns-clause-same g c clean =
    let old = state g.S.Store c.args.conn.now in
    let early : HasCleanDisk old = omega (arith, c.query_all.ensures.survives.clean, clean) in
    plain_same c.args.text.now old.now.schema (bound c.args.params.now) (c.requires.query early).plain c.query_all.result old
    (state g.S.Store c.query_all.new.self) refl (c.query_all.ensures.ok clean)

pub returns-clause-undone : goal.returns-clause-undone
returns-clause-undone g c clean =
    let old = state g.S.Store c.args.conn.now in
    let new = state g.S.Store c.query_all.new.self in
    let early : HasCleanDisk old = omega (arith, c.query_all.ensures.survives.clean, clean) in
    undone_from c.query_all.result old new
    (plain_undone c.args.text.now old.now.schema (bound c.args.params.now) (c.requires.query early).plain c.query_all.result old new refl
    (c.query_all.ensures.err clean))

pub returns-clause-corrupt : goal.returns-clause-corrupt
returns-clause-corrupt g c clean =
    let old = state g.S.Store c.args.conn.now in
    let early : HasCleanDisk old = omega (arith, c.query_all.ensures.survives.clean, clean) in
    let means = c.requires.query early in
    failed_err c.args.text.now old.now.schema (bound c.args.params.now) means.program means.names means.command means.plain c.query_all.result old
    (state g.S.Store c.query_all.new.self) refl (c.query_all.ensures.err clean)

pub returns-clause-crash : goal.returns-clause-crash
returns-clause-crash g c =
    commits_none c.args.text.now (bound c.args.params.now) (state g.S.Store c.args.conn.now) (state g.S.Store c.query_all.new.self)
    (λ clean. (c.requires.query clean).plain) c.query_all.ensures.survives

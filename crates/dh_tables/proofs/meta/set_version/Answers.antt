use Rattle.std.proofs.Common.{arith}
use Rattle.sqlite.specs.State.{HasCleanDisk}
use Rattle.sqlite.specs.Held.{state}
use Rattle.dh_tables.proofs.MetaUpdates.{sets_version}
use Rattle.dh_tables.proofs.meta.set_version.Goals as goal

pub returns-clause-set : goal.returns-clause-set
returns-clause-set g c clean =
    let old = state g.S.Store c.args.tx.now.conn.now in
    let new = state g.S.Store c.execute.new.self.conn.now in
    let early : HasCleanDisk old = omega (arith, c.execute.ensures.survives.clean, clean) in
    let was = c.requires.writing early in
    let ran = c.in_ok-execute.ensures.runs clean was.inside in
    let one = rw c.numbered.ensures at ran.0 in
    let row = c.requires.there early in
    (row.0, row.1, sets_version old new c.args.version c.in_ok-execute.field-0 was.has one row.0 row.1)

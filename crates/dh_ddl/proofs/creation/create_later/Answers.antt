use Rattle.std.proofs.Common.{arith}
use Rattle.sqlite.specs.Held.{state}
use Rattle.dh_ddl.proofs.Building.{made_later}
use Rattle.dh_ddl.proofs.creation.create_later.Goals as goal

pub returns-clause-made : goal.returns-clause-made
returns-clause-made g c clean =
    let was = c.requires (omega (arith, c.create_each.ensures.crash.clean, clean)) in
    let old = state g.S.Store c.args.tx.now.conn.now in
    let new = state g.S.Store c.create_each.new.tx.conn.now in
    made_later c.create_each.result old new was.schema_is (c.create_each.ensures.made clean)

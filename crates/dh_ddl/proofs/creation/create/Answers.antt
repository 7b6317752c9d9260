use Rattle.std.proofs.Common.{arith}
use Rattle.sqlite.specs.Held.{state}
use Rattle.dh_ddl.proofs.Creating.{makes_one}
use Rattle.dh_ddl.proofs.creation.create.Goals as goal

pub returns-clause-made : goal.returns-clause-made
returns-clause-made g c clean =
    let was = c.requires (omega (arith, c.execute.ensures.survives.clean, clean)) in
    let old = state g.S.Store c.args.tx.now.conn.now in
    let new = state g.S.Store c.execute.new.self.conn.now in
    makes_one _ old new c.in_ok-execute.field-0 (c.in_ok-execute.ensures.runs clean was)

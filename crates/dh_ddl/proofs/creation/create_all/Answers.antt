use Rattle.std.proofs.Common.{arith, subst, sym, OnOk}
use Rattle.sqlite.specs.Held.{state}
use Rattle.dh_types.specs.declared.version.Version.TheVariants.{First, Second}
use Rattle.dh_ddl.specs.Making.{HasEmptyTables}
use Rattle.dh_ddl.proofs.Building.{made_all}
use Rattle.dh_ddl.proofs.creation.create_all.Goals as goal

pub returns-in-First-clause-made : goal.returns-in-First-clause-made
returns-in-First-clause-made g c clean =
    let was = c.requires (omega (arith, c.create_each.ensures.crash.clean, clean)) in
    let old = state g.S.Store c.args.tx.now.conn.now in
    let new = state g.S.Store c.create_each.new.tx.conn.now in
    let made = made_all First c.create_each.result old new was.schema_is (c.create_each.ensures.made clean) in
    subst (λ version. OnOk c.create_each.result (HasEmptyTables version new)) (sym c.in-First.is) made

pub returns-in-Second-clause-made : goal.returns-in-Second-clause-made
returns-in-Second-clause-made g c clean =
    let was = c.requires (omega (arith, c.create_each-in-Second.ensures.crash.clean, clean)) in
    let old = state g.S.Store c.args.tx.now.conn.now in
    let new = state g.S.Store c.create_each-in-Second.new.tx.conn.now in
    let made = made_all Second c.create_each-in-Second.result old new was.schema_is (c.create_each-in-Second.ensures.made clean) in
    subst (λ version. OnOk c.create_each-in-Second.result (HasEmptyTables version new)) (sym c.in-Second.is) made

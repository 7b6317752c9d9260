use Rattle.std.proofs.Common.{arith, subst, sym}
use Rattle.sqlite.specs.State.{HasCleanDisk}
use Rattle.sqlite.specs.Held.{state}
use Rattle.dh_ddl.specs.Versions.{IsOurs}
use Rattle.dh_tables.specs.MetaTable.{SetsMonths}
use Rattle.dh_tables.proofs.MetaChanges.{adds_meta}
use Rattle.dh_tables.proofs.meta.insert_meta.Given.{Over}
use Rattle.dh_tables.proofs.meta.insert_meta.Goals as goal

did : (g : Over) (c : goal.After-drop-values-2 g) → HasCleanDisk (state g.S.Store c.execute.new.self.conn.now)
    → SetsMonths c.args.months.now (state g.S.Store c.args.tx.now.conn.now) (state g.S.Store c.execute.new.self.conn.now)
did g c clean =
    let old = state g.S.Store c.args.tx.now.conn.now in
    let new = state g.S.Store c.execute.new.self.conn.now in
    let early : HasCleanDisk old = omega (arith, c.execute.ensures.survives.clean, clean) in
    let was = c.requires.writing early in
    let ran = c.in_ok-execute.ensures.runs clean was.inside in
    let one = rw (c.deref.ensures.value, c.in_ok-values.ensures.columns) at ran.0 in
    adds_meta old new c.args.months.now c.in_ok-execute.field-0 was.has (c.requires.empty early) (c.in_ok-values.ensures.grammar tt) one

pub returns-clause-written : goal.returns-clause-written
returns-clause-written g c clean = did g c clean

pub returns-clause-writing : goal.returns-clause-writing
returns-clause-writing g c clean =
    let old = state g.S.Store c.args.tx.now.conn.now in
    let early : HasCleanDisk old = omega (arith, c.execute.ensures.survives.clean, clean) in
    let ran = c.in_ok-execute.ensures.runs clean (c.requires.writing early).inside in
    record { is_open = ran.1.is_open; inside = ran.1.mode; schema = subst IsOurs (sym (did g c clean).schema_is) (c.requires.writing early).has }

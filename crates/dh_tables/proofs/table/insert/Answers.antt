use Rattle.std.proofs.Common.{refl, sym, subst, arith, List, [], ◌∷◌, ℕ, Ok}
use Rattle.std.specs.FinMap as fin
use Rattle.sqlite.specs.State.{Executes, HasCleanDisk}
use Rattle.sqlite.specs.Held.{state}
use Rattle.dh_ddl.specs.Versions.{IsOurs, is_ours}
use Rattle.dh_sql.specs.Changes.{Becomes}
use Rattle.dh_sql.specs.Shape.{rows_in}
use Rattle.dh_sql.proofs.Adding.{adds}
use Rattle.dh_tables.proofs.Quiet.{quiet}
use Rattle.dh_tables.proofs.table.insert.Given.{Over}
use Rattle.dh_tables.proofs.OfKind.{ties, total}
use Rattle.dh_tables.proofs.ReadBack.{read_back}
use Rattle.dh_tables.proofs.table.insert.Goals as goal

did : (g : Over) (c : goal.After-drop-day-2 g) → HasCleanDisk (state g.S.Store c.execute.new.self.conn.now)
    → Becomes g.R.Tabled.shape g.R.Tabled.order (state g.S.Store c.args.tx.now.conn.now).now.schema
    (fin.insert (rows_in g.R.Tabled.shape (state g.S.Store c.args.tx.now.conn.now).now.trees) (g.R.Tabled.shape.key c.args.row.now) c.args.row.now)
    (state g.S.Store c.args.tx.now.conn.now) (state g.S.Store c.execute.new.self.conn.now)
did g c clean =
    let old = state g.S.Store c.args.tx.now.conn.now in
    let new = state g.S.Store c.execute.new.self.conn.now in
    let early : HasCleanDisk old = omega (arith, c.execute.ensures.survives.clean, clean) in
    let was = c.requires.writing early in
    let ran = c.in_ok-execute.ensures.runs clean was.inside in
    let laws = g.met.R.Tabled in
    let it = g.R.Tabled.shape in
    let how = g.R.Tabled.adding in
    let x = c.args.row.now in
    let good = c.in_ok-values.ensures.grammar c.requires.keeps in
    let one = rw (c.deref-2.ensures.value, c.in_ok-values.ensures.columns) at ran.0 in
    let told = subst (λ (t : List ℕ). Executes t (g.R.Record.row x) old new (Ok c.in_ok-execute.field-0)) c.insert_text.ensures one in
    adds (total g.R.Tabled.is_kind) (ties g.R.Tabled.is_kind) it old.now.schema (quiet old.now.schema (is_ours g.R.Tabled.since old.now.schema was.has))
    how.text how.place how.table how.terms how.width (g.R.Record.row x) g.R.Record.row how.source (x ∷ [])
    laws.is_adding.tree_is (laws.is_adding.inserts old.now.schema was.has x) old new c.in_ok-execute.field-0
    (read_back it g.R.Record.row g.R.Record.is_row g.R.Record.decode g.R.Record.key_of how laws.is_adding laws.has_shape g.met.R.Record.decodes x good, tt)
    refl (c.requires.kept early) (c.requires.fresh early, tt) told

pub returns-clause-added : goal.returns-clause-added
returns-clause-added g c clean = did g c clean

pub returns-clause-writing : goal.returns-clause-writing
returns-clause-writing g c clean =
    let old = state g.S.Store c.args.tx.now.conn.now in
    let early : HasCleanDisk old = omega (arith, c.execute.ensures.survives.clean, clean) in
    let ran = c.in_ok-execute.ensures.runs clean (c.requires.writing early).inside in
    let ours = is_ours g.R.Tabled.since old.now.schema (c.requires.writing early).has in
    record { is_open = ran.1.is_open; inside = ran.1.mode; schema = subst IsOurs (sym (did g c clean).schema_is) ours }

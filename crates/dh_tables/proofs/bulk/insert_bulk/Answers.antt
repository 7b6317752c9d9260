use Rattle.std.proofs.Common.{◌≡◌, refl, sym, subst, arith, true, List, ℕ, Ok, flat_map}
use Rattle.sqlite.specs.State.{Executes, HasCleanDisk}
use Rattle.sqlite.specs.Held.{state}
use Rattle.dh_ddl.specs.Versions.{IsOurs, is_ours}
use Rattle.dh_tables.specs.Calls.{AddsEach}
use Rattle.dh_tables.specs.Commands.{insert_rows_text, put_apart}
use Rattle.dh_tables.specs.declared.bulk.TheConstants.{BULK}
use Rattle.dh_sql.proofs.Adding.{adds, adds_all}
use Rattle.dh_sql.proofs.Lists.{all_by_recursion}
use Rattle.dh_tables.proofs.Quiet.{quiet}
use Rattle.dh_tables.proofs.OfKind.{ties, total}
use Rattle.dh_tables.proofs.ReadBack.{each_read_back}
use Rattle.dh_tables.proofs.bulk.insert_bulk.Given.{Over}
use Rattle.dh_tables.proofs.bulk.insert_bulk.Goals as goal

did : (g : Over) (c : goal.After-drop-days-2 g) → HasCleanDisk (state g.S.Store c.execute.new.self.conn.now)
    → AddsEach g.R.Tabled.shape g.R.Tabled.order c.args.rows.now (state g.S.Store c.args.tx.now.conn.now) (state g.S.Store c.execute.new.self.conn.now)
did g c clean =
    let old = state g.S.Store c.args.tx.now.conn.now in
    let new = state g.S.Store c.execute.new.self.conn.now in
    let early : HasCleanDisk old = omega (arith, c.execute.ensures.survives.clean, clean) in
    let was = c.requires.writing early in
    let ran = c.in_ok-execute.ensures.runs clean was.inside in
    let laws = g.met.R.Tabled in
    let it = g.R.Tabled.shape in
    let how = g.R.Tabled.adding in
    let named = g.R.Listed.named in
    let xs = c.args.rows.now in
    let row = g.R.Record.row in
    let good = all_by_recursion (λ x. g.R.Record.is_row (row x) ≡ true) xs (c.in_ok-values.ensures.grammar c.requires.keeps) in
    let one = rw (c.deref-2.ensures.value, c.in_ok-values.ensures.columns) at ran.0 in
    let told = subst (λ (t : List ℕ). Executes t (flat_map row xs) old new (Ok c.in_ok-execute.field-0)) c.bulk_text.ensures one in
    adds_all (total g.R.Tabled.is_kind) (ties g.R.Tabled.is_kind) it old.now.schema xs old new (c.requires.fresh early)
    (adds (total g.R.Tabled.is_kind) (ties g.R.Tabled.is_kind) it old.now.schema (quiet old.now.schema (is_ours g.R.Tabled.since old.now.schema was.has))
    (insert_rows_text BULK named.table named.names) how.place how.table (put_apart BULK 0 named.names) how.width (flat_map row xs) row how.source xs
    laws.is_adding.tree_is (g.met.R.InBulk.adds_bulk old.now.schema was.has xs c.requires.count) old new c.in_ok-execute.field-0
    (each_read_back it row g.R.Record.is_row g.R.Record.decode g.R.Record.key_of how laws.is_adding laws.has_shape g.met.R.Record.decodes xs good)
    refl (c.requires.kept early) (c.requires.fresh early) told)

pub returns-clause-added : goal.returns-clause-added
returns-clause-added g c clean = did g c clean

pub returns-clause-writing : goal.returns-clause-writing
returns-clause-writing g c clean =
    let old = state g.S.Store c.args.tx.now.conn.now in
    let early : HasCleanDisk old = omega (arith, c.execute.ensures.survives.clean, clean) in
    let ran = c.in_ok-execute.ensures.runs clean (c.requires.writing early).inside in
    let ours = is_ours g.R.Tabled.since old.now.schema (c.requires.writing early).has in
    record { is_open = ran.1.is_open; inside = ran.1.mode; schema = subst IsOurs (sym (did g c clean).schema_is) ours }

use Rattle.std.proofs.Common.{◌∙◌, refl, subst, arith, List, ℕ, Ok, drop}
use Rattle.sqlite_value.specs.Order.{Row}
use Rattle.sqlite.specs.State.{Executes, HasCleanDisk}
use Rattle.sqlite.specs.Held.{state}
use Rattle.dh_ddl.specs.Versions.{is_ours}
use Rattle.dh_sql.specs.Changes.{IsTurnedInto}
use Rattle.dh_sql.specs.Queries.{shows}
use Rattle.dh_sql.proofs.Changing.{amends}
use Rattle.dh_sql.proofs.Found.{keyed_rows}
use Rattle.dh_tables.proofs.Quiet.{quiet}
use Rattle.dh_tables.proofs.OfKind.{ties, total}
use Rattle.dh_tables.proofs.amend.update.Goals as goal

pub returns-clause-amended : goal.returns-clause-amended
returns-clause-amended g c clean =
    let old = state g.S.Store c.args.tx.now.conn.now in
    let new = state g.S.Store c.execute.new.self.conn.now in
    let early : HasCleanDisk old = omega (arith, c.execute.ensures.survives.clean, clean) in
    let was = c.requires.writing early in
    let ran = c.in_ok-execute.ensures.runs clean was.inside in
    let law = g.met.A.Amend.is_amending in
    let T = g.A.Record.Tabled in
    let it = T.shape in
    let how = g.A.Amend.amending in
    let q = c.args.change.now in
    let given = how.given q in
    let known = c.in_ok-params.ensures.known in
    let one = rw (c.deref.ensures.value, c.in_ok-params.ensures.values) at ran.0 in
    let told = subst (λ (t : List ℕ). Executes t given old new (Ok c.in_ok-execute.field-0)) c.text.ensures one in
    let is_there = c.requires.there early in
    let x = is_there.0 in
    let there = is_there.1 in
    let becomes : Row → Row = λ r. drop 1 (shows how.project given r) in
    let key = keyed_rows (total T.is_kind) (ties T.is_kind) it old.now.trees (g.A.Amend.key q) x there in
    let done =
    amends (total T.is_kind) (ties T.is_kind) it how.text old.now.schema (quiet old.now.schema (is_ours T.since old.now.schema was.has))
    how.place how.table how.tests how.project (law.means old.now.schema was.has) law.tree_is old new given
    c.in_ok-execute.field-0 (g.A.Amend.key q) x (g.A.Amend.amended q x) refl (c.requires.kept early) (c.requires.apart early) (law.finds q)
    (law.keeps_rowid q)
    (λ r stored own is.
    subst (λ y. IsTurnedInto it how.table r (becomes r) (g.A.Amend.amended q y)) is (law.turns q r known stored own))
    there (law.keeps_key q x ∙ key) told in
    (x, there, done)

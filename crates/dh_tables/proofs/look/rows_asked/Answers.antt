use Rattle.std.proofs.Common.{refl, List, ℕ, IfOk, arith, subst, sym}
use Rattle.sqlite.specs.State.{HasCleanDisk, Shown}
use Rattle.sqlite.specs.Held.{state}
use Rattle.dh_sql.proofs.Asking.{asked, asked_once}
use Rattle.dh_tables.proofs.Corrupt.{asked_each}
use Rattle.dh_tables.specs.Calls.{IsQuery}
use Rattle.dh_tables.proofs.look.rows_asked.Given.{Over}
use Rattle.dh_tables.proofs.OfKind.{ties, total}
use Rattle.dh_tables.proofs.look.rows_asked.Goals as goal

-- the rows are shown by the text of the question
shown : (g : Over) (c : goal.After-drop-day-2 g) → HasCleanDisk (state g.S.Store c.rows_shown.new.conn)
    → IfOk c.rows_shown.result (λ rows.
    Shown g.L.Look.asking.text (g.L.Look.given c.args.question.now) (state g.S.Store c.args.conn.now) (state g.S.Store c.rows_shown.new.conn) rows.items)
shown g c clean =
    let old = state g.S.Store c.args.conn.now in
    let new = state g.S.Store c.rows_shown.new.conn in
    let q = c.args.question.now in
    let given = rw (c.deref-2.ensures.value, c.in_ok-params.ensures.values) at (c.rows_shown.ensures.shown clean) in
    subst (λ (t : List ℕ). IfOk c.rows_shown.result (λ rows. Shown t (g.L.Look.given q) old new rows.items)) c.text.ensures given

pub rows_shown-requires : goal.rows_shown-requires
rows_shown-requires g c = record {
  query = λ clean.
      let old = state g.S.Store c.args.conn.now in
      let how = g.L.Look.asking in
      let means = g.met.L.Look.is_asking.selects old.now.schema (c.requires.reading clean) in
      subst (λ (t : List ℕ). IsQuery t old) (sym c.text.ensures) (record { program = _; names = how.names; command = means.command; plain = means.plain });
}

pub returns-clause-rows : goal.returns-clause-rows
returns-clause-rows g c clean =
    let old = state g.S.Store c.args.conn.now in
    let new = state g.S.Store c.rows_shown.new.conn in
    let early : HasCleanDisk old = omega (arith, c.rows_shown.ensures.crash.clean, clean) in
    let q = c.args.question.now in
    let T = g.L.Record.Tabled in
    let how = g.L.Look.asking in
    let law = g.met.L.Look.is_asking in
    asked (total T.is_kind) (ties T.is_kind) T.shape how.text old.now.schema how.tests how.project how.names (g.L.Look.given q) (g.L.Look.asks q)
    (law.selects old.now.schema (c.requires.reading early)) (law.shows_columns q) (λ r. law.passes q r c.in_ok-params.ensures.known)
    old new refl (c.requires.kept early) c.rows_shown.result (shown g c clean)

pub returns-clause-records : goal.returns-clause-records
returns-clause-records g c clean =
    let old = state g.S.Store c.args.conn.now in
    let new = state g.S.Store c.rows_shown.new.conn in
    let early : HasCleanDisk old = omega (arith, c.rows_shown.ensures.crash.clean, clean) in
    let q = c.args.question.now in
    let T = g.L.Record.Tabled in
    let how = g.L.Look.asking in
    let law = g.met.L.Look.is_asking in
    asked_each (total T.is_kind) T.shape (g.L.Look.asks q) how.text old.now.schema how.tests how.project how.names (g.L.Look.given q)
    (law.selects old.now.schema (c.requires.reading early)) (law.shows_columns q) (λ r. law.passes q r c.in_ok-params.ensures.known)
    old new refl (c.requires.kept early).values c.rows_shown.result (shown g c clean)

pub returns-clause-distinct : goal.returns-clause-distinct
returns-clause-distinct g c clean =
    let old = state g.S.Store c.args.conn.now in
    let new = state g.S.Store c.rows_shown.new.conn in
    let early : HasCleanDisk old = omega (arith, c.rows_shown.ensures.crash.clean, clean) in
    let q = c.args.question.now in
    let T = g.L.Record.Tabled in
    let how = g.L.Look.asking in
    let law = g.met.L.Look.is_asking in
    asked_once (total T.is_kind) (ties T.is_kind) T.shape how.text old.now.schema how.tests how.project how.names (g.L.Look.given q) (g.L.Look.asks q)
    (law.selects old.now.schema (c.requires.reading early)) (law.shows_columns q) (λ r. law.passes q r c.in_ok-params.ensures.known)
    old new refl (c.requires.kept early) c.rows_shown.result (shown g c clean)

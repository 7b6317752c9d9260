use Rattle.std.proofs.Common.{◌≡◌, ◌∙◌, sym, subst}
use Rattle.std.specs.FinMap.{empty}
use Rattle.sqlite.specs.State.{HasCleanDisk}
use Rattle.sqlite.specs.Held.{state}
use Rattle.dh_model.specs.Kinds.{IsSince}
use Rattle.dh_sql.specs.Shape.{rows_in}
use Rattle.dh_schema.specs.Store.{tables}
use Rattle.dh_schema.specs.Tables.{rows_since, version_of_tables}
use Rattle.dh_schema.proofs.OfKind.{holds}
use Rattle.dh_schema.proofs.Later.{none_brought}
use Rattle.dh_tables.proofs.OfKind.{ties, total}
use Rattle.dh_schema.proofs.looks.later.look_later.Goals as goal

pub look-requires-clause-since : goal.look-requires-clause-since
look-requires-clause-since g c clean =
    subst (λ since. IsSince since (version_of_tables (state g.S.Store c.args.conn.now).now.trees)) (sym c.requires.later)
    (sym (c.requires.ready clean).1 ∙ c.in-Second.is)

pub returns-in-First-clause-brought : goal.returns-in-First-clause-brought
returns-in-First-clause-brought g c =
    let old = state g.S.Store c.args.conn.now in
    let T = g.L.Record.Tabled in
    let none : HasCleanDisk old → T.accessor.held (tables old) ≡ empty = λ clean.
    let first = sym (c.requires.ready clean).1 ∙ c.in-First.is in
    holds _ T.is_kind old.now.trees ∙ (λ i. rows_since (c.requires.later i) (first i) (rows_in T.shape {R = T.order} old.now.trees)) in
    none_brought (total T.is_kind) (ties T.is_kind) T.accessor (g.L.Look.asks c.args.question.now) old c.args.books.now none

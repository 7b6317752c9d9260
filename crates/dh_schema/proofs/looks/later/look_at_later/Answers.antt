use Rattle.std.proofs.Common.{◌≡◌, ◌∙◌, sym, ap, subst, arith}
use Rattle.std.specs.FinMap.{empty}
use Rattle.sqlite.specs.State.{HasCleanDisk}
use Rattle.sqlite.specs.Held.{state}
use Rattle.dh_model.specs.Kinds.{IsSince}
use Rattle.dh_sql.specs.Shape.{rows_in}
use Rattle.dh_schema.specs.Store.{tables}
use Rattle.dh_schema.specs.Tables.{rows_since, version_of_tables}
use Rattle.dh_schema.proofs.EachKind.{all_since}
use Rattle.dh_schema.proofs.ReadTables.{on_ok}
use Rattle.dh_schema.proofs.OfKind.{holds}
use Rattle.dh_schema.proofs.looks.later.look_at_later.Goals as goal

pub look_at_all-requires-clause-since : goal.look_at_all-requires-clause-since
look_at_all-requires-clause-since g c clean =
    subst (λ since. IsSince since (version_of_tables (state g.S.Store c.args.conn.now).now.trees)) (sym c.requires.later)
    (sym (c.requires.ready clean).1 ∙ c.in-Second.is)

pub returns-in-First-clause-gathered : goal.returns-in-First-clause-gathered
returns-in-First-clause-gathered g c clean =
    let old = state g.S.Store c.args.conn.now in
    let first = sym (c.requires.ready clean).1 ∙ c.in-First.is in
    let accessor = g.R.Tabled.accessor in
    let books = c.args.books.now in
    let none : accessor.held (tables old) ≡ empty =
    holds _ g.R.Tabled.is_kind old.now.trees ∙ (λ i. rows_since (c.requires.later i) (first i) (rows_in g.R.Tabled.shape old.now.trees)) in
    sym (accessor.with_held books) ∙ ap (accessor.with books) (c.requires.none clean ∙ sym none)

pub returns-in-Second-clause-gathered : goal.returns-in-Second-clause-gathered
returns-in-Second-clause-gathered g c clean =
    let trees = (state g.S.Store c.args.conn.now).now.trees in
    let early : HasCleanDisk (state g.S.Store c.args.conn.now) = omega (arith, c.look_at_all.ensures.reads.crash.clean, clean) in
    let second = sym (c.requires.ready early).1 ∙ c.in-Second.is in
    let has = subst (λ since. IsSince since (version_of_tables trees)) (sym c.requires.later) second in
    let all = all_since g.R.Tabled.since (version_of_tables trees) (rows_in g.R.Tabled.shape trees) has in
    on_ok c.look_at_all.result (λ taken. taken ∙ ap (g.R.Tabled.accessor.with c.args.books.now) (sym all ∙ sym (holds _ g.R.Tabled.is_kind trees)))
    (c.look_at_all.ensures.gathered clean)

use Rattle.std.proofs.Common.{◌≡◌, ◌∙◌, ap, sym, subst, true, inl, inr, List}
use Rattle.std.proofs.lemmas.Bool.{cases_Bool}
use Rattle.std.specs.List.{AllByRecursion}
use Rattle.sqlite_trees.proofs.ListLemmas.{all_weaker}
use Rattle.sqlite_value.specs.Order.{Row}
use Rattle.sqlite.specs.Held.{state}
use Rattle.dh_sql.specs.Shape.{rows_in}
use Rattle.dh_sql.specs.Gathered.{put_rows}
use Rattle.dh_sql.proofs.Slices.{put_beside}
use Rattle.dh_tables.proofs.OfKind.{ties, total}
use Rattle.dh_tables.specs.Questions.{IsAskedRow}
use Rattle.dh_tables.proofs.some_rows.fetch_more.Goals as goal

pub returns-clause-fetched : goal.returns-clause-fetched
returns-clause-fetched g c clean done test held =
    let T = g.L.Record.Tabled in
    let old = c.args.books.now in
    let rows = c.in_ok-rows.rows.items in
    let all = rows_in T.shape (state g.S.Store c.args.conn.now).now.trees in
    c.in_ok-gather.ensures.gathered done
    ∙ ap (T.accessor.with old) (ap (λ rs. put_rows T.shape rs (T.accessor.held old)) c.deref.ensures.value ∙ ap (put_rows T.shape rows) held
    ∙ put_beside (total T.is_kind) (ties T.is_kind) T.shape test (g.L.Look.asks c.args.question.now) all rows
    (c.in_ok-rows.ensures.distinct clean) (c.in_ok-rows.ensures.rows clean))

pub returns-clause-read : goal.returns-clause-read
returns-clause-read g c clean =
    let T = g.L.Record.Tabled in
    let is_row = g.L.Record.Record.is_row in
    let good = all_weaker (IsAskedRow T.shape (g.L.Look.asks c.args.question.now)) (λ row. is_row row ≡ true)
    (λ row it. sym (g.met.L.Record.Tabled.has_shape.is_row_is row) ∙ it.0) c.in_ok-rows.rows.items (c.in_ok-rows.ensures.records clean) in
    elim (cases_Bool c.in_ok-gather.field-0) [
      | inl done ↦ done
      | inr not ↦ absurd (c.in_ok-gather.ensures.damaged not
          (subst (λ (rows : List Row). AllByRecursion (λ row. is_row row ≡ true) rows) (sym c.deref.ensures.value) good))
    ]

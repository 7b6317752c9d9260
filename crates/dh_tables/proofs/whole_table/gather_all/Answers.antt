use Rattle.std.proofs.Common.{◌≡◌, ◌∙◌, ap, arith, inr, length, List, subst, true}
use Rattle.std.specs.FinMap.{values}
use Rattle.std.specs.List.{AllByRecursion}
use Rattle.sqlite_value.specs.Order.{Row}
use Rattle.sqlite.specs.Held.{state}
use Rattle.dh_sql.specs.Gathered.{put_rows}
use Rattle.dh_tables.proofs.Whole.{as_many_held, gathered, no_record}
use Rattle.dh_tables.proofs.OfKind.{ties, total}
use Rattle.dh_tables.proofs.whole_table.gather_all.Goals as goal

pub returns-then-not-branch-clause-damaged : goal.returns-then-not-branch-clause-damaged
returns-then-not-branch-clause-damaged g c clean is =
    let T = g.R.Tabled in
    let is_row = g.R.Record.is_row in
    let damaged = c.in_ok-gather.ensures.damaged c.if-not-branch.true in
    no_record T.shape is_row g.met.R.Tabled.has_shape.is_row_is (state g.S.Store c.args.conn.now).now.trees c.in_ok-rows.rows.items
    (c.in_ok-rows.ensures.rows clean)
    (subst (λ (rows : List Row). ¬ AllByRecursion (λ row. is_row row ≡ true) rows) c.deref.ensures.value damaged)

pub returns-clause-gathered : goal.returns-clause-gathered
returns-clause-gathered g c clean is =
    let T = g.R.Tabled in
    let laws = g.met.R.Tabled in
    let is_row = g.R.Record.is_row in
    let old = c.args.books.now in
    let rows = c.in_ok-rows.rows.items in
    let done = c.if-not-branch.false in
    let good = subst (AllByRecursion (λ row. is_row row ≡ true)) c.deref.ensures.value (c.in_ok-gather.ensures.good done) in
    let put = c.in_ok-gather.ensures.gathered done
    ∙ ap (λ (rs : List Row). T.accessor.with old (put_rows T.shape rs (T.accessor.held old))) c.deref.ensures.value in
    let as_many : length (values (T.accessor.held c.gather.new.books)) ≡ length rows =
    omega (arith, c.held_count.ensures, c.len.ensures, c.if-held_count-len.false) in
    gathered T.shape is_row laws.has_shape.is_row_is (state g.S.Store c.args.conn.now).now.trees rows (c.in_ok-rows.ensures.rows clean)
    (total T.is_kind) (ties T.is_kind) T.accessor old c.gather.new.books (c.requires.none (omega (arith, c.rows_listed.ensures.crash.clean, clean)))
    put good as_many

pub returns-then-held_count-len-clause-corrupt : goal.returns-then-held_count-len-clause-corrupt
returns-then-held_count-len-clause-corrupt g c clean is =
    let T = g.R.Tabled in
    let old = c.args.books.now in
    let put = c.in_ok-gather.ensures.gathered c.if-not-branch.false
    ∙ ap (λ (rs : List Row). T.accessor.with old (put_rows T.shape rs (T.accessor.held old))) c.deref.ensures.value in
    let none = c.requires.none (omega (arith, c.rows_listed.ensures.crash.clean, clean)) in
    inr (λ once.
    let as_many = as_many_held T.shape g.R.Record.is_row g.met.R.Tabled.has_shape.is_row_is (state g.S.Store c.args.conn.now).now.trees
    c.in_ok-rows.rows.items (c.in_ok-rows.ensures.rows clean) (total T.is_kind) (ties T.is_kind) T.accessor old c.gather.new.books none put once in
    absurd (omega (arith, as_many, c.held_count.ensures, c.len.ensures, c.if-held_count-len.true)))

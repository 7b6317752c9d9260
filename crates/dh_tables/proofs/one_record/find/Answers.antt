use Rattle.std.proofs.Common.{◌∙◌, ap, subst, sym, List}
use Rattle.sqlite_value.specs.Order.{Row}
use Rattle.sqlite.specs.Held.{state}
use Rattle.dh_sql.specs.Shape.{rows_in, rows_of}
use Rattle.dh_sql.proofs.Found.{keyed_rows}
use Rattle.dh_tables.specs.Questions.{AreOneAtMost}
use Rattle.dh_tables.proofs.Corrupt.{one_at_most}
use Rattle.dh_tables.proofs.OneRecord.{found_ok}
use Rattle.dh_tables.proofs.OfKind.{ties, total}
use Rattle.dh_tables.proofs.one_record.find.Goals as goal

pub returns-clause-found : goal.returns-clause-found
returns-clause-found g c clean =
    let T = g.L.Record.Tabled in
    let trees = (state g.S.Store c.args.conn.now).now.trees in
    let same = ap (λ (rows : List Row). rows_of T.shape {R = T.order} rows) c.deref.ensures.value ∙ c.in_ok-rows.ensures.rows clean in
    found_ok (total T.is_kind) (ties T.is_kind) T.shape (g.L.Look.asks c.args.question.now) (rows_in T.shape trees)
    (keyed_rows (total T.is_kind) (ties T.is_kind) T.shape trees) c.only.result (rows_of T.shape c.deref.result.now) c.only.ensures.read same

pub returns-clause-corrupt : goal.returns-clause-corrupt
returns-clause-corrupt g c clean key asked so =
    let T = g.L.Record.Tabled in
    let rows = c.in_ok-rows.rows.items in
    let one = one_at_most (total T.is_kind) T.shape (g.L.Look.asks c.args.question.now) key asked rows (c.in_ok-rows.ensures.records clean)
    (c.in_ok-rows.ensures.distinct clean) in
    absurd (c.only.ensures.corrupt so (subst (AreOneAtMost T.shape.is_row) (sym c.deref.ensures.value) one))

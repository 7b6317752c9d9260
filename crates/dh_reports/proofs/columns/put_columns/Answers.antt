use Rattle.std.proofs.Common.{[], ◌∷◌, ◌<◌, ◌≤◌, length, arith}
use Rattle.std.proofs.lemmas.Result.{err_from_is_err_and}
use Rattle.dh_reports.proofs.LineLemmas.{ends}
use Rattle.dh_reports.proofs.ColumnLemmas.{columns-start, columns-more, columns-front, columns-done}
use Rattle.dh_reports.proofs.columns.put_columns.Goals as goal

pub loop-column-init : goal.loop-column-init
loop-column-init g c = columns-start _ c.args.columns.now

pub loop-column-preserved : goal.loop-column-preserved
loop-column-preserved g c =
    let here : c.loop-column.column-index < length c.args.columns.now = omega arith in
    columns-more _ _ _ _ c.loop-column.parting.now c.args.columns.now c.loop-column.column-index _ here c.loop-column.invariant
    c.in_ok-put_pieces.ensures

pub returns-in_err-put_pieces : goal.returns-in_err-put_pieces
returns-in_err-put_pieces g c =
    let here : c.loop-column.column-index < length c.args.columns.now = omega arith in
    let p = err_from_is_err_and c.from_residual.result c.from_residual.ensures.1 in
    rw p.1 (columns-front _ _ _ _ c.loop-column.parting.now c.args.columns.now c.loop-column.column-index _ here c.loop-column.invariant
    c.in_err-put_pieces.ensures)

pub returns : goal.returns
returns g c =
    let past : length c.args.columns.now ≤ c.loop-column.column-index = omega arith in
    ends c.put.result _ _ _ _ (10 ∷ [])
    (columns-done _ _ _ c.loop-column.parting.now c.args.columns.now c.loop-column.column-index past c.loop-column.invariant) c.put.ensures

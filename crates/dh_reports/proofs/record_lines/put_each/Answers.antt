use Rattle.std.proofs.Common.{◌<◌, length, arith}
use Rattle.std.proofs.lemmas.Result.{err_from_is_err_and}
use Rattle.dh_reports.proofs.LineLemmas.{lines-more, lines-front}
use Rattle.dh_reports.proofs.record_lines.put_each.Goals as goal

pub loop-record-preserved : goal.loop-record-preserved
loop-record-preserved g c =
    let here : c.loop-record.record-index < length c.args.records.now = omega arith in
    lines-more g.L.ReportLine.line _ _ _ _ _ _ here c.record-item.is c.loop-record.invariant c.in_ok-put.ensures

pub returns-in_err-put : goal.returns-in_err-put
returns-in_err-put g c =
    let here : c.loop-record.record-index < length c.args.records.now = omega arith in
    let p = err_from_is_err_and c.from_residual.result c.from_residual.ensures.1 in
    rw p.1 (lines-front g.L.ReportLine.line _ _ _ _ _ _ here c.record-item.is c.loop-record.invariant c.in_err-put.ensures)

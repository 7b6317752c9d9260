use Rattle.std.proofs.Common.{drop}
use Rattle.std.specs.List.{flat_map}
use Rattle.dh_types.proofs.WritingLemmas.{Written}
use Rattle.dh_reports.proofs.record_lines.put_each.Given as goal

abbrev pub invariant-loop-record : goal.invariant-loop-record
invariant-loop-record g l =
    Written (g.W.Write.contents l.initial.writer) (g.W.Write.contents l.writer) (flat_map g.L.ReportLine.line l.records)
    (flat_map g.L.ReportLine.line (drop l.record-index l.records))

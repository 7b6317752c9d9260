use Rattle.std.proofs.Common.{◌≡◌, take}
use Rattle.std.specs.List.{flat_map}
use Rattle.dh_reports.specs.Columns.{line_feeds}
use Rattle.dh_reports.proofs.laws.each_has_one_line.Given as goal

abbrev pub invariant-loop-record : goal.invariant-loop-record
invariant-loop-record g l = line_feeds (flat_map g.L.ReportLine.line (take l.record-index l.records)) ≡ l.record-index

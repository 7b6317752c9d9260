use Rattle.std.proofs.Common.{drop, map}
use Rattle.dh_types.proofs.WritingLemmas.{Written}
use Rattle.dh_reports.specs.Columns.{column_text, line}
use Rattle.dh_reports.proofs.ColumnLemmas.{ahead}
use Rattle.dh_reports.proofs.columns.put_columns.Given as goal

abbrev pub invariant-loop-column : goal.invariant-loop-column
invariant-loop-column g l =
    Written (g.W.Write.contents l.initial.writer) (g.W.Write.contents l.writer) (line (map column_text l.columns))
    (ahead l.parting (map column_text (drop l.column-index l.columns)))

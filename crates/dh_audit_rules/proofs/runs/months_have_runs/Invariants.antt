use Rattle.std.proofs.Common.{◌↔◌}
use Rattle.std.specs.FinMap as fin
use Rattle.dh_audit_rules.proofs.Consecutive.{Follow}
use Rattle.dh_audit_rules.proofs.runs.months_have_runs.Given as goal

abbrev pub invariant-loop-month : goal.invariant-loop-month
invariant-loop-month l = record {
  follow : Follow (fin.keys l.books.books.runs) l.books.books.first l.books.books.next ↔ Follow l.month-iterator l.expected l.books.books.next;
}

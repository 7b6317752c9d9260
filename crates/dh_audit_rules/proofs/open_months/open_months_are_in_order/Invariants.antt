use Rattle.std.proofs.Common.{◌≡◌, false, map}
use Rattle.std.specs.Map.Iter.{deref}
use Rattle.dh_types.specs.declared.run.Run.{Run}
use Rattle.dh_model.specs.Rules.{MonthIsOpen}
use Rattle.dh_model.specs.Runs.{batch_size}
use Rattle.dh_model.proofs.Among.{Among}
use Rattle.dh_audit_rules.proofs.open_months.open_months_are_in_order.Given as goal

abbrev pub invariant-loop-run : goal.invariant-loop-run
invariant-loop-run l = (run : Run) → Among (map deref l.yielded) run → run.is_closed ≡ false → MonthIsOpen l.books.books batch_size run

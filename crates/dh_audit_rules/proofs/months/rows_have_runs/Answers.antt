use Rattle.std.proofs.Common.{rules, tests}
use Rattle.dh_audit_rules.proofs.Rows.{each_row, fails, passes}
use Rattle.dh_audit_rules.proofs.months.rows_have_runs.Goals as goal

pub returns-then-all : goal.returns-then-all
returns-then-all c =
    passes (λ all. all) (λ charged summed. (charged, summed)) (each_row c.all.ensures.ran c.charges.ensures (λ x b q k. search (rules, tests)))
    (each_row c.all-then-all.ensures.ran c.parts.ensures.rows (λ x b q k. search (rules, tests))) c.if-all.true

pub returns-else-all : goal.returns-else-all
returns-else-all c = fails (λ all. all.0) (each_row c.all.ensures.ran c.charges.ensures (λ x b q k. search (rules, tests))) c.if-all.false

use Rattle.std.proofs.Common.{rules, tests}
use Rattle.dh_audit_rules.proofs.Rows.{each_row, passes}
use Rattle.dh_audit_rules.proofs.runs.runs_in_order.Goals as goal

pub returns-then-months_have_runs : goal.returns-then-months_have_runs
returns-then-months_have_runs c =
    passes (λ all. ((all.months, all.run), all.closed)) (λ are closed. record { months = are.0; run = are.1; closed = closed }) c.months_have_runs.ensures
    (each_row c.all.ensures.ran c.runs.ensures (λ x b q k. search (rules, tests))) c.if-months_have_runs.true

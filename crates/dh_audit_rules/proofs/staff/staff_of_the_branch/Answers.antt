use Rattle.std.proofs.Common.{rules, tests}
use Rattle.dh_audit_rules.proofs.Rows.{each_row, fails, passes}
use Rattle.dh_audit_rules.proofs.staff.staff_of_the_branch.Goals as goal

pub returns-then-all : goal.returns-then-all
returns-then-all c =
    passes (λ all. (all.managers, all.registrars)) (λ managers registrars. record { managers = managers; registrars = registrars })
    (each_row c.all.ensures.ran c.properties.ensures (λ x b q k. search (rules, tests)))
    (each_row c.all-then-all.ensures.ran c.registrations.ensures (λ x b q k. search (rules, tests))) c.if-all.true

pub returns-else-all : goal.returns-else-all
returns-else-all c =
    fails (λ all. all.managers) (each_row c.all.ensures.ran c.properties.ensures (λ x b q k. search (rules, tests))) c.if-all.false

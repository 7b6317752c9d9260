use Rattle.std.proofs.Common.{rules, tests, sym, subst, ◌≤◌}
use Rattle.dh_audit_rules.proofs.Rows.{each_as, each_row}
use Rattle.dh_audit_rules.proofs.staff.manages_at_most_hundred.Goals as goal

pub returns : goal.returns
returns c =
    each_as _
    (λ row. let count = c.in_ok-counts.ensures row.number in (λ few. subst (λ n. n ≤ 100) count few, λ few. subst (λ n. n ≤ 100) (sym count) few))
    (each_row c.all.ensures.ran c.staff.ensures (λ x b q k. search (rules, tests)))

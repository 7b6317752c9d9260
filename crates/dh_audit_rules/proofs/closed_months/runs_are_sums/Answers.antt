use Rattle.std.proofs.Common.{rules, tests, ◌≡◌, sym, subst, true}
use Rattle.std.specs.Ordering.{nat_cmp}
use Rattle.dh_audit_rules.specs.ClosedMonths.{RunIsSum, sum_at}
use Rattle.dh_audit_rules.proofs.Rows.{each_as, each_row}
use Rattle.dh_audit_rules.proofs.closed_months.runs_are_sums.Goals as goal

pub returns : goal.returns
returns c =
    each_as {P = λ run. run.is_closed ≡ true → RunIsSum run (sum_at nat_cmp c.in_ok-sums.sums run.month)} _
    (λ run. (
      λ so closed. subst (RunIsSum run) (c.in_ok-sums.ensures run.month) (so closed),
      λ so closed. subst (RunIsSum run) (sym (c.in_ok-sums.ensures run.month)) (so closed),
    ))
    (each_row c.all.ensures.ran c.runs.ensures (λ x b q k. search (rules, tests)))

use Rattle.std.proofs.Common.{rules, ◌∙◌, sym, ap, take, length, arith, ◌<◌}
use Rattle.std.specs.Ordering.{nat_cmp}
use Rattle.dh_model.proofs.KeyOrders.{nat_ties, nat_total}
use Rattle.dh_audit_rules.specs.ClosedMonths.{charges_of_month, is_in, sum_at, sum_of}
use Rattle.dh_audit_rules.proofs.ClosedSums.{count_fits, month_tells, put_one, still_small, sum_kept, taken, taken_all}
use Rattle.dh_audit_rules.proofs.closed_sums.sums_of_months.Goals as goal

pub add-requires-clause-few : goal.add-requires-clause-few
add-requires-clause-few c =
    let month = c.due-item.result.charge.month in
    let long : length c.args.dues.now < 18446744073709551616 = search rules in
    let few = count_fits (is_in month) c.args.dues.now c.loop-due.due-index (length c.args.dues.now) (sum_at nat_cmp c.loop-due.sums month)
    (c.loop-due.invariant.value month) c.loop-due-test.true (omega arith) in
    omega (arith, few, long)

pub add-requires-clause-small : goal.add-requires-clause-small
add-requires-clause-small c = c.loop-due.invariant.small c.due-item.result.charge.month

pub loop-due-preserved : goal.loop-due-preserved
loop-due-preserved c =
    let dues = c.args.dues.now in
    let i = c.loop-due.due-index in
    let due = c.due-item.result in
    let next = taken dues i due c.due-item.is c.loop-due-test.true in
    record {
      value = λ month. put_one nat_total nat_ties is_in due.charge.month (take i dues) due (sum_at nat_cmp c.loop-due.sums) (sum_at nat_cmp c.add.new.sums)
          (month_tells due) c.loop-due.invariant.value c.in_ok-add.ensures.value month
          ∙ ap (sum_kept (is_in month)) (sym next);
      small = still_small nat_total nat_ties is_in due.charge.month (take i dues) due (sum_at nat_cmp c.loop-due.sums) (sum_at nat_cmp c.add.new.sums)
          (month_tells due) c.loop-due.invariant.value c.in_ok-add.ensures.value c.in_ok-add.ensures.bound c.loop-due.invariant.small;
    }

pub returns : goal.returns
returns c = λ month. c.loop-due.invariant.value month
    ∙ ap (λ ds. sum_of (charges_of_month ds month)) (taken_all c.args.dues.now c.loop-due.due-index c.loop-due.auto.due-index-end c.loop-due-test.false)

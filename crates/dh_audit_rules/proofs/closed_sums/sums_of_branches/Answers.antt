use Rattle.std.proofs.Common.{rules, ◌≡◌, ◌∙◌, sym, ap, subst, take, length, arith, false, cond, is_eq, ℕ, List, ◌*◌, ◌<◌, ◌≤◌}
use Rattle.std.specs.Ordering.{nat_cmp}
use Rattle.dh_model.specs.Books.{pair_cmp, text_cmp}
use Rattle.dh_audit_rules.specs.ClosedMonths.{charges_of_branch, sum_at, sum_of, with_charge}
use Rattle.dh_audit_rules.proofs.ClosedSums.{at_key, branch_tells, count_fits, is_under, no_branch, put_one, still_small, sum_kept}
use Rattle.dh_audit_rules.proofs.ClosedSums.{sum_step, taken, taken_all}
use Rattle.dh_audit_rules.proofs.closed_sums.sums_of_branches.Goals.{in-Some+in_ok-add, in_default}
use Rattle.dh_audit_rules.proofs.closed_sums.sums_of_branches.Goals as goal
use Rattle.dh_model.proofs.KeyOrders.{nat_text_ties, nat_text_total}

pub add-requires-clause-few : goal.add-requires-clause-few
add-requires-clause-few c =
    let key = at_key c.due-item.result.charge.month c.in-Some.branch in
    let long : length c.args.dues.now < 18446744073709551616 = search rules in
    let few = count_fits (is_under key) c.args.dues.now c.loop-due.due-index (length c.args.dues.now) (sum_at (pair_cmp nat_cmp text_cmp) c.loop-due.sums key)
    (c.loop-due.invariant.value key) c.loop-due-test.true (omega arith) in
    omega (arith, few, long)

pub add-requires-clause-small : goal.add-requires-clause-small
add-requires-clause-small c = c.loop-due.invariant.small (c.due-item.result.charge.month, c.in-Some.branch)

pub loop-due-preserved : goal.loop-due-preserved
loop-due-preserved c =
    let dues = c.args.dues.now in
    let i = c.loop-due.due-index in
    let due = c.due-item.result in
    let next = taken dues i due c.due-item.is c.loop-due-test.true in
    let old = sum_at (pair_cmp nat_cmp text_cmp) c.loop-due.sums in
    let new = sum_at (pair_cmp nat_cmp text_cmp) c.match-due.sums in
    elim c.match-due.branch [
      | in-Some+in_ok-add w ↦
          let branch = w.in-Some.branch in
          let one = at_key due.charge.month branch in
          let is : (key : ℕ × List ℕ) → new key ≡ cond (is_eq (pair_cmp nat_cmp text_cmp one key)) (with_charge (old one) due.charge) (old key) =
          λ key. ap (λ m. sum_at (pair_cmp nat_cmp text_cmp) m key) w.sums-is ∙ w.in_ok-add.ensures.value key in
          record {
            value = λ key. put_one nat_text_total nat_text_ties is_under one (take i dues) due old new
                (branch_tells due branch w.in-Some.is) c.loop-due.invariant.value is key ∙ ap (sum_kept (is_under key)) (sym next);
            small = still_small nat_text_total nat_text_ties is_under one (take i dues) due old new
                (branch_tells due branch w.in-Some.is) c.loop-due.invariant.value is w.in_ok-add.ensures.bound c.loop-due.invariant.small;
          }
      | in_default w ↦ record {
        value = λ key. ap (λ m. sum_at (pair_cmp nat_cmp text_cmp) m key) w.sums-is ∙ c.loop-due.invariant.value key
            ∙ sym (sum_step (is_under key) (take i dues) due false (no_branch due w.in_default.is key)) ∙ ap (sum_kept (is_under key)) (sym next);
        small = λ key. subst (λ m. (sum_at (pair_cmp nat_cmp text_cmp) m key).total ≤ 999999 * (sum_at (pair_cmp nat_cmp text_cmp) m key).count) (sym w.sums-is)
            (c.loop-due.invariant.small key);
      }
    ]

pub returns : goal.returns
returns c = λ key. c.loop-due.invariant.value key
    ∙ ap (λ ds. sum_of (charges_of_branch ds key)) (taken_all c.args.dues.now c.loop-due.due-index c.loop-due.auto.due-index-end c.loop-due-test.false)

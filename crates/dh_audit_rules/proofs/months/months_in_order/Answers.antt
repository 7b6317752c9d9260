use Rattle.dh_audit_rules.proofs.months.months_in_order.Goals as goal

pub returns-in_ok-open_months_are_in_order : goal.returns-in_ok-open_months_are_in_order
returns-in_ok-open_months_are_in_order c = (
  λ yes.
      let rows = c.rows_have_runs.ensures.0 c.if-not-rows_have_runs.false in
      record {
        closed = c.in_ok-closed_months_are_in_order.ensures.0 c.if-branch.true;
        under_way = c.in_ok-open_months_are_in_order.ensures.0 yes;
        charged = rows.0;
        summed = rows.1;
      },
  λ holds. c.in_ok-open_months_are_in_order.ensures.1 holds.under_way,
)

use Rattle.std.proofs.Common.{◌++◌}
use Rattle.std.specs.Prelude.{codes}
use Rattle.std.specs.List.{flat_map}
use Rattle.std.proofs.KnownBytes.{Appends-trans}
use Rattle.dh_reports.specs.ReportTexts.{charge_line, lease_line, receipt_line, sum_line}
use Rattle.dh_reports.proofs.LineLemmas.{behind, broke, front, goes_on}
use Rattle.dh_reports.proofs.statements.put_statement.Goals as goal

pub returns-in_err-put : goal.returns-in_err-put
returns-in_err-put g c =
    let it = c.args.statement.now in
    let lease = lease_line it.lease in
    let charges = flat_map charge_line it.charges.items in
    let receipts = flat_map receipt_line it.receipts.items in
    broke c.from_residual.result _ _ (lease ++ charges ++ receipts) (sum_line (codes "balance") 10 it.balance) c.from_residual.ensures.0
    (front _ _ (lease ++ charges) receipts (front _ _ lease charges c.in_err-put.ensures))

pub returns-in_err-put_each : goal.returns-in_err-put_each
returns-in_err-put_each g c =
    let it = c.args.statement.now in
    let lease = lease_line it.lease in
    let charges = flat_map charge_line it.charges.items in
    let receipts = flat_map receipt_line it.receipts.items in
    broke c.from_residual-in_err-put_each.result _ _ (lease ++ charges ++ receipts) (sum_line (codes "balance") 10 it.balance)
    c.from_residual-in_err-put_each.ensures.0
    (front _ _ (lease ++ charges) receipts (behind _ _ _ lease charges c.in_ok-put.ensures (rw c.deref.ensures.value at c.in_err-put_each.ensures)))

pub returns-in_err-put_each-2 : goal.returns-in_err-put_each-2
returns-in_err-put_each-2 g c =
    let it = c.args.statement.now in
    let lease = lease_line it.lease in
    let charges = flat_map charge_line it.charges.items in
    let receipts = flat_map receipt_line it.receipts.items in
    broke c.from_residual-in_err-put_each-2.result _ _ (lease ++ charges ++ receipts) (sum_line (codes "balance") 10 it.balance)
    c.from_residual-in_err-put_each-2.ensures.0
    (behind _ _ _ (lease ++ charges) receipts
    (Appends-trans _ _ _ lease charges c.in_ok-put.ensures (rw c.deref.ensures.value at c.in_ok-put_each.ensures))
    (rw c.deref-2.ensures.value at c.in_err-put_each-2.ensures))

pub returns : goal.returns
returns g c =
    let it = c.args.statement.now in
    let lease = lease_line it.lease in
    let charges = flat_map charge_line it.charges.items in
    let receipts = flat_map receipt_line it.receipts.items in
    goes_on c.put_sum.result _ _ _ (lease ++ charges ++ receipts) (sum_line (codes "balance") 10 it.balance)
    (Appends-trans _ _ _ (lease ++ charges) receipts
    (Appends-trans _ _ _ lease charges c.in_ok-put.ensures (rw c.deref.ensures.value at c.in_ok-put_each.ensures))
    (rw c.deref-2.ensures.value at c.in_ok-put_each-2.ensures)) c.put_sum.ensures

use Rattle.std.proofs.Common.{◌++◌}
use Rattle.std.specs.Prelude.{codes}
use Rattle.std.specs.List.{flat_map}
use Rattle.std.proofs.KnownBytes.{Appends-trans}
use Rattle.dh_reports.specs.ReportTexts.{owner_line, sum_line, sums_line}
use Rattle.dh_reports.proofs.LineLemmas.{behind, broke, front, goes_on}
use Rattle.dh_reports.proofs.owner_statements.put_owner_statement.Goals as goal

pub returns-in_err-put_each : goal.returns-in_err-put_each
returns-in_err-put_each g c =
    let it = c.args.statement.now in
    let lines = flat_map owner_line it.lines.items in
    let sums = sums_line (codes "total") it.total it.fees in
    broke c.from_residual.result _ _ (lines ++ sums) (sum_line (codes "payable") 8 it.payable) c.from_residual.ensures.0
    (front _ _ lines sums (rw c.deref.ensures.value at c.in_err-put_each.ensures))

pub returns-in_err-put_sums : goal.returns-in_err-put_sums
returns-in_err-put_sums g c =
    let it = c.args.statement.now in
    let lines = flat_map owner_line it.lines.items in
    let sums = sums_line (codes "total") it.total it.fees in
    broke c.from_residual-in_err-put_sums.result _ _ (lines ++ sums) (sum_line (codes "payable") 8 it.payable)
    c.from_residual-in_err-put_sums.ensures.0
    (behind _ _ _ lines sums (rw c.deref.ensures.value at c.in_ok-put_each.ensures) c.in_err-put_sums.ensures)

pub returns : goal.returns
returns g c =
    let it = c.args.statement.now in
    let lines = flat_map owner_line it.lines.items in
    let sums = sums_line (codes "total") it.total it.fees in
    goes_on c.put_sum.result _ _ _ (lines ++ sums) (sum_line (codes "payable") 8 it.payable)
    (Appends-trans _ _ _ lines sums (rw c.deref.ensures.value at c.in_ok-put_each.ensures) c.in_ok-put_sums.ensures) c.put_sum.ensures

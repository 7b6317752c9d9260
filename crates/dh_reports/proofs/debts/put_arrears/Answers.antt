use Rattle.std.specs.Prelude.{codes}
use Rattle.std.specs.List.{flat_map}
use Rattle.dh_reports.specs.ReportTexts.{debt_line, sum_line}
use Rattle.dh_reports.proofs.LineLemmas.{goes_on}
use Rattle.dh_reports.proofs.debts.put_arrears.Goals as goal

pub returns : goal.returns
returns g c =
    let it = c.args.arrears.now in
    goes_on c.put_sum.result _ _ _ (flat_map debt_line it.debts.items) (sum_line (codes "total") 8 it.total)
    (rw c.deref.ensures.value at c.in_ok-put_each.ensures) c.put_sum.ensures

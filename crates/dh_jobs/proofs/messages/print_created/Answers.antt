use Rattle.std.proofs.Common.{◌++◌, codes}
use Rattle.dh_days.specs.Months.{month_text}
use Rattle.dh_reports.specs.Columns.{newline}
use Rattle.dh_reports.proofs.PartLemmas.{broke, goes_on}
use Rattle.dh_jobs.proofs.messages.print_created.Goals as goal

pub returns-in_err-put_month : goal.returns-in_err-put_month
returns-in_err-put_month g c =
    broke c.from_residual.result _ _ (codes "created " ++ month_text c.args.first) newline c.from_residual.ensures.0
    (rw c.month.ensures.value at c.in_err-put_month.ensures)

pub returns : goal.returns
returns g c =
    goes_on c.put.result _ _ _ (codes "created " ++ month_text c.args.first) newline (rw c.month.ensures.value at c.in_ok-put_month.ensures) c.put.ensures

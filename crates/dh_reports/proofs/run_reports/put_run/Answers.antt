use Rattle.std.specs.List.{flat_map}
use Rattle.dh_days.specs.Months.{month_text}
use Rattle.dh_reports.specs.ReportTexts.{count_line, part_line}
use Rattle.dh_reports.proofs.LineLemmas.{goes_on}
use Rattle.dh_reports.proofs.run_reports.put_run.Goals as goal

pub returns : goal.returns
returns g c =
    let it = c.args.run.now in
    goes_on c.put_count.result _ _ _ (flat_map part_line it.parts.items) (count_line (month_text it.sum.month) it.sum.count it.sum.total)
    (rw c.deref.ensures.value at c.in_ok-put_each.ensures)
    (rw (c.as_str.ensures.value, c.month_text.ensures.text, c.month.ensures.value) at c.put_count.ensures)

use Rattle.dh_reports.proofs.ReportFeeds.{arrears_feeds, owner_text_feeds, run_feeds, statement_feeds}
use Rattle.dh_reports.proofs.laws.lines_are_line_feeds.Goals as goal

pub returns-in-Statement : goal.returns-in-Statement
returns-in-Statement c =
    let it = c.in-Statement.statement in
    rw c.in-Statement.is
    (statement_feeds it.lease it.charges.items it.receipts.items it.balance c.has_one_line.ensures
    (rw c.deref-in-Statement.ensures.value at c.each_has_one_line-in-Statement.ensures)
    (rw c.deref-in-Statement-2.ensures.value at c.each_has_one_line-in-Statement-2.ensures))

pub returns-in-Arrears : goal.returns-in-Arrears
returns-in-Arrears c =
    let it = c.in-Arrears.arrears in
    rw c.in-Arrears.is (arrears_feeds it.debts.items it.total (rw c.deref-in-Arrears.ensures.value at c.each_has_one_line-in-Arrears.ensures))

pub returns-in-Run : goal.returns-in-Run
returns-in-Run c =
    let it = c.in-Run.run' in
    rw c.in-Run.is (run_feeds it.parts.items it.sum (rw c.deref-in-Run.ensures.value at c.each_has_one_line-in-Run.ensures))

pub returns-in-Owner : goal.returns-in-Owner
returns-in-Owner c =
    let it = c.in-Owner.statement in
    rw c.in-Owner.is
    (owner_text_feeds it.lines.items it.total it.fees it.payable (rw c.deref-in-Owner.ensures.value at c.each_has_one_line-in-Owner.ensures))

use Rattle.dh_reports.proofs.ReportFeeds.{receipt_feeds}
use Rattle.dh_reports.proofs.statements.ReceiptReportLine.has_one_line.Goals as goal

pub returns : goal.returns
returns c = receipt_feeds c.args.self.now

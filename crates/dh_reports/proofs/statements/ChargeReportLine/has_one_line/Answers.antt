use Rattle.dh_reports.proofs.ReportFeeds.{charge_feeds}
use Rattle.dh_reports.proofs.statements.ChargeReportLine.has_one_line.Goals as goal

pub returns : goal.returns
returns c = charge_feeds c.args.self.now

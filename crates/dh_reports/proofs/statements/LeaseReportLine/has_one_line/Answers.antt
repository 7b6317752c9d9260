use Rattle.dh_reports.proofs.ReportFeeds.{lease_feeds}
use Rattle.dh_reports.proofs.statements.LeaseReportLine.has_one_line.Goals as goal

pub returns : goal.returns
returns c = lease_feeds c.args.self.now c.as_str-client.ensures.code c.as_str-property.ensures.code

use Rattle.dh_reports.proofs.ReportFeeds.{owner_feeds}
use Rattle.dh_reports.proofs.owner_statements.OwnerLineReportLine.has_one_line.Goals as goal

pub returns : goal.returns
returns c = owner_feeds c.args.self.now c.as_str-property.ensures.code

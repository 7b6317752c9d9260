use Rattle.dh_reports.proofs.ReportFeeds.{part_feeds}
use Rattle.dh_reports.proofs.run_reports.PartReportLine.has_one_line.Goals as goal

pub returns : goal.returns
returns c = part_feeds c.args.self.now c.as_str-branch.ensures.code

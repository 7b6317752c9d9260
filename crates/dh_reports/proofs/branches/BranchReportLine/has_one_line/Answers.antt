use Rattle.dh_reports.proofs.ReportFeeds.{branch_feeds}
use Rattle.dh_reports.proofs.branches.BranchReportLine.has_one_line.Goals as goal

pub returns : goal.returns
returns c = branch_feeds c.args.self.now c.as_str-number.ensures.code c.as_str-city.ensures.grammar

use Rattle.dh_reports.proofs.ReportFeeds.{property_feeds}
use Rattle.dh_reports.proofs.properties.PropertyReportLine.has_one_line.Goals as goal

pub returns : goal.returns
returns c = property_feeds c.args.self.now c.as_str-number.ensures.code c.as_str-city.ensures.grammar

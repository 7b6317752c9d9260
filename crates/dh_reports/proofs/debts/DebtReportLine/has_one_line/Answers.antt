use Rattle.std.proofs.Common.{sym, subst}
use Rattle.dh_reports.proofs.ReportFeeds.{IsName, debt_feeds}
use Rattle.dh_reports.proofs.debts.DebtReportLine.has_one_line.Goals as goal

pub returns-in-Some : goal.returns-in-Some
returns-in-Some c = debt_feeds c.args.self.now c.as_str-client.ensures.code (subst IsName (sym c.in-Some.is) c.as_str-name.ensures.grammar)

pub returns-in_default : goal.returns-in_default
returns-in_default c = debt_feeds c.args.self.now c.as_str-client.ensures.code (subst IsName (sym c.in_default.is) tt)

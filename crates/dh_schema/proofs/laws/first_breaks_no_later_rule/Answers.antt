use Rattle.dh_schema.proofs.FirstTables.{first_breaks_no_later_rule}
use Rattle.dh_schema.proofs.laws.first_breaks_no_later_rule.Goals as goal

pub returns : goal.returns
returns c = first_breaks_no_later_rule

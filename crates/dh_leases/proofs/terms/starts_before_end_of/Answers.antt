use Rattle.std.proofs.Common.{rules}
use Rattle.dh_leases.proofs.terms.starts_before_end_of.Goals as goal

pub returns-clause-value : goal.returns-clause-value
returns-clause-value c = search rules

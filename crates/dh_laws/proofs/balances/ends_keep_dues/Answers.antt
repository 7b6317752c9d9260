use Rattle.dh_laws.proofs.InvariantLemmas.EarlyEnds.{ends_keep_dues}
use Rattle.dh_laws.proofs.balances.ends_keep_dues.Goals as goal

pub returns : goal.returns
returns c = ends_keep_dues

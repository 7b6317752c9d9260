use Rattle.dh_laws.proofs.StandingLemmas.Tells.{nothing_new_leaves_the_tables}
use Rattle.dh_laws.proofs.standings.nothing_new_leaves_the_tables.Goals as goal

pub returns : goal.returns
returns c = nothing_new_leaves_the_tables

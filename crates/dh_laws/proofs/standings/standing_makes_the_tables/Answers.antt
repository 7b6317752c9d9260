use Rattle.dh_laws.proofs.StandingLemmas.Tells.{standing_makes_the_tables}
use Rattle.dh_laws.proofs.standings.standing_makes_the_tables.Goals as goal

pub returns : goal.returns
returns c = standing_makes_the_tables

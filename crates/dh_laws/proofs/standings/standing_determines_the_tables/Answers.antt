use Rattle.dh_laws.proofs.StandingLemmas.Tells.{standing_determines_the_tables}
use Rattle.dh_laws.proofs.standings.standing_determines_the_tables.Goals as goal

pub returns : goal.returns
returns c = standing_determines_the_tables

use Rattle.dh_laws.proofs.InvariantLemmas.Versions.{the_version_stays}
use Rattle.dh_laws.proofs.invariants.the_version_stays.Goals as goal

pub returns : goal.returns
returns c = the_version_stays

use Rattle.dh_model.proofs.DueLemmas.{dues_are_those_of_leases}
use Rattle.dh_model.proofs.laws.dues_are_those_of_leases.Goals as goal

pub returns : goal.returns
returns c = dues_are_those_of_leases

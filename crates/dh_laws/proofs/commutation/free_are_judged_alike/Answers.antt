use Rattle.dh_laws.proofs.CommutationLemmas.Verdicts.{free_are_judged_alike}
use Rattle.dh_laws.proofs.commutation.free_are_judged_alike.Goals as goal

pub returns : goal.returns
returns c = free_are_judged_alike

use Rattle.dh_laws.proofs.CommutationLemmas.Changes.{free_changes_pass_the_run}
use Rattle.dh_laws.proofs.commutation.free_changes_pass_the_run.Goals as goal

pub returns : goal.returns
returns c = free_changes_pass_the_run

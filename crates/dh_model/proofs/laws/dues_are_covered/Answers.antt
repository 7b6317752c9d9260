use Rattle.dh_model.proofs.DueLemmas.{due_is_covered}
use Rattle.dh_model.proofs.laws.dues_are_covered.Goals as goal

pub returns : goal.returns
returns c = due_is_covered

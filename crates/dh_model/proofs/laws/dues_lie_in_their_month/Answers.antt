use Rattle.dh_model.proofs.DueLemmas.{dues_lie_in_their_month}
use Rattle.dh_model.proofs.laws.dues_lie_in_their_month.Goals as goal

pub returns : goal.returns
returns c = dues_lie_in_their_month

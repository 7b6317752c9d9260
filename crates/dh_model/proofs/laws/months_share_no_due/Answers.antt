use Rattle.dh_model.proofs.DueLemmas.{months_share_no_due}
use Rattle.dh_model.proofs.laws.months_share_no_due.Goals as goal

pub returns : goal.returns
returns c = months_share_no_due

use Rattle.dh_model.proofs.FeeLemmas.{fees_are_no_more}
use Rattle.dh_model.proofs.laws.fees_are_no_more.Goals as goal

pub returns : goal.returns
returns c = fees_are_no_more

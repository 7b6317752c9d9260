use Rattle.dh_model.proofs.LeaseLemmas.{overlap_is_by_ends}
use Rattle.dh_model.proofs.laws.overlap_is_by_ends.Goals as goal

pub returns : goal.returns
returns c = overlap_is_by_ends

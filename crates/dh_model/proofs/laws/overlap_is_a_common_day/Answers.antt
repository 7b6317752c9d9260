use Rattle.dh_model.proofs.LeaseLemmas.{overlap_is_common_day}
use Rattle.dh_model.proofs.laws.overlap_is_a_common_day.Goals as goal

pub returns : goal.returns
returns c = overlap_is_common_day

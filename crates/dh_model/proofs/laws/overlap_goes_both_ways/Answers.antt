use Rattle.dh_model.proofs.LeaseLemmas.{overlap_goes_both_ways}
use Rattle.dh_model.proofs.laws.overlap_goes_both_ways.Goals as goal

pub returns : goal.returns
returns c = overlap_goes_both_ways

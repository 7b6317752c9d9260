use Rattle.dh_laws.proofs.BatchLemmas.Opening.{run_is_opening_made_whole}
use Rattle.dh_laws.proofs.batches.run_is_opening_made_whole.Goals as goal

pub returns : goal.returns
returns c = run_is_opening_made_whole

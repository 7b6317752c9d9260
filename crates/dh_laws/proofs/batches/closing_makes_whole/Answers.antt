use Rattle.dh_laws.proofs.BatchLemmas.Closing.{closing_makes_whole}
use Rattle.dh_laws.proofs.batches.closing_makes_whole.Goals as goal

pub returns : goal.returns
returns c = closing_makes_whole

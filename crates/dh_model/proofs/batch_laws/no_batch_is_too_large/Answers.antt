use Rattle.dh_model.proofs.BatchLemmas.{no_batch_is_too_large}
use Rattle.dh_model.proofs.batch_laws.no_batch_is_too_large.Goals as goal

pub returns : goal.returns
returns c = no_batch_is_too_large

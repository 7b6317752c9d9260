use Rattle.dh_model.proofs.BatchLemmas.{last_batch_posts_all}
use Rattle.dh_model.proofs.batch_laws.last_batch_posts_all.Goals as goal

pub returns : goal.returns
returns c = last_batch_posts_all

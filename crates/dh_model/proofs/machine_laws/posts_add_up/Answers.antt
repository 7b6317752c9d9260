use Rattle.dh_model.proofs.MachineLemmas.{posts_add}
use Rattle.dh_model.proofs.machine_laws.posts_add_up.Goals as goal

pub returns : goal.returns
returns c = posts_add

use Rattle.dh_laws.proofs.FrozenLemmas.Answers.{batches_pass_the_run}
use Rattle.dh_laws.proofs.frozen.batches_pass_the_run.Goals as goal

pub returns : goal.returns
returns c = batches_pass_the_run

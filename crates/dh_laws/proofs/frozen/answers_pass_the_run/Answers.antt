use Rattle.dh_laws.proofs.FrozenLemmas.Answers.{answers_pass_the_run}
use Rattle.dh_laws.proofs.frozen.answers_pass_the_run.Goals as goal

pub returns : goal.returns
returns c = answers_pass_the_run

use Rattle.dh_model.specs.Runs.{batch_size}
use Rattle.dh_lives.proofs.Moving.{answers_keep_the_rules}
use Rattle.dh_lives.proofs.answers.answers_keep_the_rules.Goals as goal

pub returns : goal.returns
returns c = answers_keep_the_rules (c.whole_is_lawful.ensures batch_size) (c.steps_keep_the_law.ensures batch_size)

use Rattle.dh_model.specs.Runs.{batch_size}
use Rattle.dh_lives.proofs.Moving.{charges_are_dues}
use Rattle.dh_lives.proofs.answers.charges_are_dues.Goals as goal

pub returns : goal.returns
returns c = charges_are_dues (c.whole_is_lawful.ensures batch_size) (c.charges_are_dues.ensures batch_size)

use Rattle.dh_model.specs.Runs.{batch_size}
use Rattle.dh_lives.proofs.Moving.{answers_move_balances}
use Rattle.dh_lives.proofs.answers.answers_move_balances.Goals as goal

pub returns : goal.returns
returns c = answers_move_balances (c.whole_is_lawful.ensures batch_size) (c.balances_move_as_told.ensures batch_size)

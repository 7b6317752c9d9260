use Rattle.dh_model.specs.Runs.{batch_size}
use Rattle.dh_lives.proofs.Unchanged.{standing_determines_the_tables}
use Rattle.dh_lives.proofs.answers.standing_determines_the_tables.Goals as goal

pub returns : goal.returns
returns c = standing_determines_the_tables (c.standing_determines_the_tables.ensures batch_size)

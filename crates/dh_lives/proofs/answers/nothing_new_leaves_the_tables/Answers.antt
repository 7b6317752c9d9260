use Rattle.dh_model.specs.Runs.{batch_size}
use Rattle.dh_lives.proofs.Unchanged.{nothing_new_leaves_the_tables}
use Rattle.dh_lives.proofs.answers.nothing_new_leaves_the_tables.Goals as goal

pub returns : goal.returns
returns c = nothing_new_leaves_the_tables (c.nothing_new_leaves_the_tables.ensures batch_size)

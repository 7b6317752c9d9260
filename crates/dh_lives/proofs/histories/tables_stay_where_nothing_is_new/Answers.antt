use Rattle.dh_model.specs.Runs.{batch_size}
use Rattle.dh_lives.proofs.Unchanged.{tables_stay_where_nothing_is_new}
use Rattle.dh_lives.proofs.histories.tables_stay_where_nothing_is_new.Goals as goal

pub returns : goal.returns
returns g c = tables_stay_where_nothing_is_new g.S.Store (c.nothing_new_leaves_the_tables.ensures batch_size)

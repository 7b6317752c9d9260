use Rattle.dh_laws.proofs.LifeLemmas.Tables.{empty_tables_are_shown}
use Rattle.dh_laws.proofs.lives.empty_tables_are_shown.Goals as goal

pub returns : goal.returns
returns c = empty_tables_are_shown

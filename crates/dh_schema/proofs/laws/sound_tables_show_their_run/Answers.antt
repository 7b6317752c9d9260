use Rattle.dh_schema.proofs.Keyed.{sound_tables_show_their_run}
use Rattle.dh_schema.proofs.laws.sound_tables_show_their_run.Goals as goal

pub returns : goal.returns
returns c = sound_tables_show_their_run

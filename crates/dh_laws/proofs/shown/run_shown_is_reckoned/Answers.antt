use Rattle.dh_laws.proofs.ShownLemmas.Run.{run_shown_is_reckoned}
use Rattle.dh_laws.proofs.shown.run_shown_is_reckoned.Goals as goal

pub returns : goal.returns
returns c = run_shown_is_reckoned

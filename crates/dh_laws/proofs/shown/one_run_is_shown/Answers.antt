use Rattle.dh_laws.proofs.ShownLemmas.Run.{one_run_is_shown}
use Rattle.dh_laws.proofs.shown.one_run_is_shown.Goals as goal

pub returns : goal.returns
returns c = one_run_is_shown

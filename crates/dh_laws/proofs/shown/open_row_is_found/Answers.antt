use Rattle.dh_laws.proofs.ShownLemmas.Run.{open_row_is_found}
use Rattle.dh_laws.proofs.shown.open_row_is_found.Goals as goal

pub returns : goal.returns
returns c = open_row_is_found

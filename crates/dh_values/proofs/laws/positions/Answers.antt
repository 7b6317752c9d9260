use Rattle.dh_values.proofs.KindTexts.{positions}
use Rattle.dh_values.proofs.laws.positions.Goals as goal

pub returns : goal.returns
returns c = positions

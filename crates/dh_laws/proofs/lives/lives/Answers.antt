use Rattle.dh_laws.proofs.LifeLemmas.Commands.{lives}
use Rattle.dh_laws.proofs.lives.lives.Goals as goal

pub returns : goal.returns
returns c = lives

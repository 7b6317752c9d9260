use Rattle.dh_laws.proofs.LifeLemmas.Beginnings.{one_life_keeps_a_beginning}
use Rattle.dh_laws.proofs.lives.one_life_keeps_a_beginning.Goals as goal

pub returns : goal.returns
returns c = one_life_keeps_a_beginning

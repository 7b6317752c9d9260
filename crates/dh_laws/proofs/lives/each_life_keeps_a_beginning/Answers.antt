use Rattle.dh_laws.proofs.LifeLemmas.Parts.{each_life_keeps_a_beginning}
use Rattle.dh_laws.proofs.lives.each_life_keeps_a_beginning.Goals as goal

pub returns : goal.returns
returns c = each_life_keeps_a_beginning

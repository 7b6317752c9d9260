use Rattle.dh_laws.proofs.LifeLemmas.Books.{months_are_charged_once}
use Rattle.dh_laws.proofs.lives.months_are_charged_once.Goals as goal

pub returns : goal.returns
returns c = months_are_charged_once

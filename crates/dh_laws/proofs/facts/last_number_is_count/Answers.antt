use Rattle.dh_laws.proofs.FactLemmas.Last.{last_number_is_count}
use Rattle.dh_laws.proofs.facts.last_number_is_count.Goals as goal

pub returns : goal.returns
returns c = last_number_is_count

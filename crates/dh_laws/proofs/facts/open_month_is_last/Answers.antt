use Rattle.dh_laws.proofs.FactLemmas.Last.{open_month_is_last}
use Rattle.dh_laws.proofs.facts.open_month_is_last.Goals as goal

pub returns : goal.returns
returns c = open_month_is_last

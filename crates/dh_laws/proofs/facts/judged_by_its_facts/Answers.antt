use Rattle.dh_laws.proofs.FactLemmas.Judged.{judged_by_its_facts}
use Rattle.dh_laws.proofs.facts.judged_by_its_facts.Goals as goal

pub returns : goal.returns
returns c = judged_by_its_facts

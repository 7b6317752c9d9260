use Rattle.dh_laws.proofs.FactLemmas.Fit.{accepted_changes_fit}
use Rattle.dh_laws.proofs.facts.accepted_changes_fit.Goals as goal

pub returns : goal.returns
returns c = accepted_changes_fit

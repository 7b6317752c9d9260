use Rattle.dh_laws.proofs.RepeatLemmas.Keys.{keys_are_found}
use Rattle.dh_laws.proofs.repeats.keys_are_found.Goals as goal

pub returns : goal.returns
returns c = keys_are_found

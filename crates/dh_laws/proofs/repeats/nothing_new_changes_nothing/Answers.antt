use Rattle.dh_laws.proofs.RepeatLemmas.Replies.{nothing_new_changes_nothing}
use Rattle.dh_laws.proofs.repeats.nothing_new_changes_nothing.Goals as goal

pub returns : goal.returns
returns c = nothing_new_changes_nothing

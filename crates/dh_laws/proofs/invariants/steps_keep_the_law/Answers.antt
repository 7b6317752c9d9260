use Rattle.dh_laws.proofs.InvariantLemmas.Order.{changes_keep_order}
use Rattle.dh_laws.proofs.MonthLemmas.Steps.{steps_keep}
use Rattle.dh_laws.proofs.MonthLemmas.Whole.{whole_is_lawful}
use Rattle.dh_laws.proofs.BatchLemmas.Opening.{run_is_opening_made_whole}
use Rattle.dh_laws.proofs.invariants.steps_keep_the_law.Goals as goal

pub returns : goal.returns
returns c = λ size. steps_keep size (changes_keep_order size) (whole_is_lawful size) (run_is_opening_made_whole size)

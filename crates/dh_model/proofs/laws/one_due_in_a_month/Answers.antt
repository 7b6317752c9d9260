use Rattle.dh_model.proofs.DueLemmas.{one_due_in_a_month}
use Rattle.dh_model.proofs.laws.one_due_in_a_month.Goals as goal

pub returns : goal.returns
returns c = one_due_in_a_month

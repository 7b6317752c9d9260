use Rattle.dh_model.proofs.DueLemmas.{dues_number_the_months}
use Rattle.dh_model.proofs.laws.dues_number_the_months.Goals as goal

pub returns : goal.returns
returns c = dues_number_the_months

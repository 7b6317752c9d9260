use Rattle.dh_model.proofs.ListedDues.{dues_rise_by_lease}
use Rattle.dh_model.proofs.list_laws.dues_rise_by_lease.Goals as goal

pub returns : goal.returns
returns c = dues_rise_by_lease

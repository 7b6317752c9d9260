use Rattle.dh_model.proofs.ListedProperties.{vacant_rise_by_number}
use Rattle.dh_model.proofs.list_laws.vacant_rise_by_number.Goals as goal

pub returns : goal.returns
returns c = vacant_rise_by_number

use Rattle.dh_model.proofs.ListedProperties.{matching_rise_by_rent}
use Rattle.dh_model.proofs.list_laws.matching_rise_by_rent.Goals as goal

pub returns : goal.returns
returns c = matching_rise_by_rent

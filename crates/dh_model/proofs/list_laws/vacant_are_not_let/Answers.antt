use Rattle.dh_model.proofs.ListedProperties.{vacant_are_not_let}
use Rattle.dh_model.proofs.list_laws.vacant_are_not_let.Goals as goal

pub returns : goal.returns
returns c = vacant_are_not_let

use Rattle.dh_model.proofs.ListedProperties.{matching_suit_the_client}
use Rattle.dh_model.proofs.list_laws.matching_suit_the_client.Goals as goal

pub returns : goal.returns
returns c = matching_suit_the_client

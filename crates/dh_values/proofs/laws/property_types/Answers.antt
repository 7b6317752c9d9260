use Rattle.dh_values.proofs.KindTexts.{property_types}
use Rattle.dh_values.proofs.laws.property_types.Goals as goal

pub returns : goal.returns
returns c = property_types

use Rattle.dh_schema.proofs.Keyed.{order_has_values}
use Rattle.dh_schema.proofs.laws.order_has_values.Goals as goal

pub returns : goal.returns
returns c = order_has_values

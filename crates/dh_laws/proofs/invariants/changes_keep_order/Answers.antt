use Rattle.dh_laws.proofs.InvariantLemmas.Order.{changes_keep_order}
use Rattle.dh_laws.proofs.invariants.changes_keep_order.Goals as goal

pub returns : goal.returns
returns c = changes_keep_order

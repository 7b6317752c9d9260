-- The order of the keys of each kind is total, and only equal keys tie.
use Rattle.std.specs.Cmp.{IsTotalOrder}
use Rattle.std.specs.FinMap.{IsAntisymmetric}
use Rattle.dh_model.specs.Kinds.{Code, KeyForm, Kind, Number, Pair, entry, order_by, order_of}
use Rattle.dh_model.proofs.KeyOrders.{nat_ties, nat_total, pair_ties, pair_total, text_ties, text_total}

total_by : (form : KeyForm) → IsTotalOrder (order_by form)
total_by Code = text_total
total_by Number = nat_total
total_by (Pair one two) = pair_total (total_by one) (total_by two)

ties_by : (form : KeyForm) → IsAntisymmetric (order_by form)
ties_by Code = text_ties
ties_by Number = nat_ties
ties_by (Pair one two) = pair_ties (ties_by one) (ties_by two)

pub total_of : (kind : Kind) → IsTotalOrder (order_of kind)
total_of kind = total_by (entry kind).form

pub ties_of : (kind : Kind) → IsAntisymmetric (order_of kind)
ties_of kind = ties_by (entry kind).form

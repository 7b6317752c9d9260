-- What holds of each kind holds where a type says which kind it is.
use Rattle.std.specs.Cmp.{IsTotalOrder}
use Rattle.std.specs.FinMap.{IsAntisymmetric}
use Rattle.dh_model.proofs.KindOrders.{ties_of, total_of}
use Rattle.dh_tables.specs.Kinds.{IsKind, Stored}

module _ {it : Stored} (is : IsKind it) where
  pub total : IsTotalOrder it.order
  total = is.by_kind (λ s as_row of_row as_key. IsTotalOrder s.order) (total_of is.kind)

  pub ties : IsAntisymmetric it.order
  ties = is.by_kind (λ s as_row of_row as_key. IsAntisymmetric s.order) (ties_of is.kind)

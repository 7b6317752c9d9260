-- What holds of the records of each kind holds where those of one kind are replaced by others of which it holds: as that they are keyed.
use Rattle.std.proofs.Common.{◌≡◌, ℕ}
use Rattle.std.specs.FinMap.{FinMap, insert}
use Rattle.dh_model.specs.Books.{Books, StandUnder}
use Rattle.dh_model.specs.Kinds.{Kind, key_in, key_of, order_of, record_of, records_of, with_records}
use Rattle.dh_model.proofs.KindOrders.{ties_of, total_of}
use Rattle.dh_laws.specs.InOrder.{AreKeyed}
use Rattle.dh_model.proofs.UnderKeys.{insert_keyed}

module _ (books : Books) (P : (kind : Kind) → FinMap (order_of kind) (record_of kind) → Type 0) (each : (kind : Kind) → P kind (records_of kind books)) where
  pub each_with : (kind : Kind) (rows : FinMap (order_of kind) (record_of kind)) → P kind rows
      → (other : Kind) → P other (records_of other (with_records kind rows books))
  each_with Kind.Branches rows is Kind.Branches = is
  each_with kind rows is Kind.Branches = each Kind.Branches
  each_with kind rows is other = assumption (each other)

module _ (books : Books) (keyed : AreKeyed books) where
  -- a record is put under its key
  pub keyed_put : (kind : Kind) (key : key_of kind) (it : record_of kind) → key_in kind it ≡ key
      → AreKeyed (with_records kind (insert (records_of kind books) key it) books)
  keyed_put kind key it is =
      each_with books (λ other. StandUnder (key_in other)) keyed kind (insert (records_of kind books) key it)
      (insert_keyed (total_of kind) (ties_of kind) (key_in kind) (records_of kind books) key it is (keyed kind))

  pub keyed_next : (month : ℕ) → AreKeyed (record books { next = month })
  keyed_next month Kind.Branches = keyed Kind.Branches
  keyed_next month kind = keyed kind

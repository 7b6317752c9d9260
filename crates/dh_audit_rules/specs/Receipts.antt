-- What receipts and their keys are tested by.
use Rattle.std.specs.Prelude.{◌≡◌, ℕ, ◌*◌, List, ◌++◌, map, IfSome}
use Rattle.std.specs.List.{filter}
use Rattle.std.specs.FinMap.{get, values}
use Rattle.dh_values.specs.declared.receipt_kind.ReceiptKind.TheVariants.{Deposit}
use Rattle.dh_types.specs.declared.lease.Receipt.{Receipt}
use Rattle.dh_types.specs.Records.{is_same_receipt_kind}
use Rattle.dh_model.specs.Books.{Books}

-- the receipt, if it is of a deposit, is twice the rent of its lease, if that is there
abbrev pub IsTwiceTheRent : Books → Receipt → Type 0
IsTwiceTheRent books receipt =
    receipt.payment.kind ≡ Deposit → IfSome (get books.leases receipt.payment.lease) (λ lease. receipt.payment.amount ≡ 2 * lease.rent)

-- the leases of the deposits
abbrev pub deposit_leases : Books → List ℕ
deposit_leases books =
    map (λ receipt. receipt.payment.lease) (filter (λ receipt. is_same_receipt_kind receipt.payment.kind Deposit) (values books.receipts))

-- the keys of receipts, and then those of runs
abbrev pub all_keys : Books → List (List ℕ)
all_keys books = map (λ receipt. receipt.key) (values books.receipts) ++ map (λ run. run.key) (values books.runs)

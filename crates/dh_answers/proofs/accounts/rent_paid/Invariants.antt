use Rattle.std.proofs.Common.{◌≡◌, ℕ, ◌+◌, ◌*◌, ◌≤◌, nat_eq, length}
use Rattle.std.specs.List.{filter, sum_by}
use Rattle.dh_values.specs.declared.receipt_kind.ReceiptKind.TheVariants.{Rent}
use Rattle.dh_types.specs.Records.{is_same_receipt_kind}
use Rattle.dh_model.specs.Answers.{rent_paid}
use Rattle.dh_answers.specs.Sums.{sum_at}
use Rattle.dh_answers.proofs.accounts.rent_paid.Given as goal

abbrev pub invariant-loop-receipt : goal.invariant-loop-receipt
invariant-loop-receipt l = record {
  value : (lease : ℕ)
      → sum_at l.sums lease
      + sum_by (λ receipt. receipt.payment.amount)
      (filter (λ receipt. is_same_receipt_kind receipt.payment.kind Rent) (filter (λ receipt. nat_eq receipt.payment.lease lease) l.receipt-iterator))
      ≡ rent_paid l.books.books lease;
  range : (lease : ℕ) → sum_at l.sums lease + 99999999 * length l.receipt-iterator ≤ 99999999 * l._count;
}

-- The rows of an accepted command fit in the books.
use Rattle.std.proofs.Common.{◌≡◌, ◌≤◌, ◌+◌, ℕ, Option, None, arith}
use Rattle.std.specs.FinMap.{get, len}
use Rattle.dh_types.specs.declared.lease.Receipt.{Receipt}
use Rattle.dh_model.specs.declared.open_run.OpenRun.{OpenRun}
use Rattle.dh_model.specs.Books.{Books}
use Rattle.dh_model.specs.Kinds.{Kind}
use Rattle.dh_model.specs.Edits.{Begin, CanEdit, Edit, Insert, Nothing, Replace, Update, edit_of}
use Rattle.dh_model.specs.Rules.{KeysInOrder, RunsInOrder}
use Rattle.dh_model.specs.Rules.Rule.{Keys, Runs}
use Rattle.dh_model.proofs.KeyOrders.{nat_ties, nat_total}
use Rattle.dh_model.proofs.MapRows.{each_got, there}
use Rattle.dh_laws.specs.InOrder.{AreKeyed}
use Rattle.dh_laws.specs.Looks.{AcceptedChangesFit}
use Rattle.dh_laws.proofs.VerdictLemmas.Acceptance.{Edits, edits}
use Rattle.dh_laws.proofs.VerdictLemmas.Cases.{accepted}
use Rattle.dh_laws.proofs.BalanceLemmas.Dues.{none_if}

module _ (books : Books) (keyed : AreKeyed books) where
  -- the next number is of no receipt
  pub next_number_is_new : KeysInOrder books → (number : ℕ) → number ≡ len books.receipts + 1 → get books.receipts number ≡ None
  next_number_is_new keys number next = none_if (get books.receipts number) (λ old is.
      let own = keyed Kind.Receipts number old is in
      let bounds = each_got nat_total nat_ties books.receipts (λ (r : Receipt). (1 ≤ r.number) × (r.number ≤ len books.receipts)) keys.numbers number old is in
      let within = bounds.1 in
      omega (arith, own, within, next))

  -- the next month has no run
  pub next_month_is_new : RunsInOrder books → (month : ℕ) → month ≡ books.next → get books.runs month ≡ None
  next_month_is_new runs month next = none_if (get books.runs month) (λ row is.
      let within = (runs.run month).0 ((there nat_total nat_ties books.runs month).1 (row, is)) in
      omega (arith, within.1, next))

  module _ (run : Option OpenRun) (keys : KeysInOrder books) (runs : RunsInOrder books) where
    fits : (edit : Edit) → Edits books run edit → CanEdit edit books
    fits (Insert Kind.Receipts it) a = next_number_is_new keys it.number a.known
    fits (Insert kind it) a = a.known
    fits (Replace kind it) a = a.known
    fits (Update kind key into) a = (a.row, a.is)
    fits (Begin it) a = next_month_is_new runs it.month a.month
    fits Nothing a = tt

pub accepted_changes_fit : (size : ℕ) → AcceptedChangesFit size
accepted_changes_fit size books run told rows in_order h =
    fits books in_order.keyed run (in_order.rules Keys) (in_order.rules Runs) (edit_of rows) (edits books run rows (accepted books run rows told h))

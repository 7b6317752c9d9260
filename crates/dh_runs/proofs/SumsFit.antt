-- What the part rows of the open run come to fits into the run's row, where no batch is left.
use Rattle.std.proofs.Common.{◌≡◌, ◌∙◌, sym, ap, subst, inl, inr, refl, ℕ, ◌*◌, ◌≤◌, true, List, [], ◌∷◌, length, map, pos, negsuc, nat_eq, nat_le}
use Rattle.std.proofs.Common.{Some, Option, arith}
use Rattle.std.specs.declared.cmp.Ordering.{Ordering}
use Rattle.std.specs.List.{sum_by}
use Rattle.std.specs.Cmp.{IsTotalOrder}
use Rattle.std.specs.FinMap.{IsAntisymmetric, get, get-from_entries, values}
use Rattle.std.proofs.lemmas.Bool.{and_parts}
use Rattle.std.proofs.lemmas.Bool.Decides.{nat_tests}
use Rattle.std.proofs.lemmas.List.Sums.{sum_by-cons}
use Rattle.sqlite_value.specs.declared.value.Value.{Value}
use Rattle.sqlite_value.specs.declared.value.Value.TheVariants.{Null, Int, Real, Text, Blob}
use Rattle.sqlite_value.specs.Order.{Row, column}
use Rattle.sqlite_trees.specs.Tree.{Trees}
use Rattle.sqlite.specs.State.{State}
use Rattle.dh_values.specs.Counts.{IsLeaseNo}
use Rattle.dh_values.specs.declared.limits.TheConstants.{MOST_NUMBER, MOST_RENT}
use Rattle.dh_types.specs.declared.lease.Charge.{Charge}
use Rattle.dh_types.specs.declared.run.RunSum.{RunSum}
use Rattle.dh_model.specs.declared.open_run.OpenRun.{OpenRun}
use Rattle.dh_model.specs.Books.{Books}
use Rattle.dh_model.specs.Kinds.{Charges, Leases, Parts}
use Rattle.dh_model.specs.Rules.{charges_in, parts_in}
use Rattle.dh_model.specs.Runs.{batch_size, batches, total_of}
use Rattle.dh_model.proofs.Among.{Among, in_filter, in_map}
use Rattle.dh_model.proofs.KeyOrders.{nat_ties, nat_total, nats_tie, nats_total}
use Rattle.dh_model.proofs.MapRows.{found_entry, row_of}
use Rattle.dh_laws.specs.InOrder.{IsInOrder}
use Rattle.dh_books.specs.Seen.{AreKept}
use Rattle.dh_books.proofs.Numbers.{few_leases}
use Rattle.dh_leases.proofs.FewLemmas.{few_posted}
use Rattle.dh_rows.specs.Cells.{is_number_cell, number_in}
use Rattle.dh_sql.specs.Shape.{IsKept, IsStored, Shape, entry_in, rows_in, stored_in}
use Rattle.dh_sql.proofs.Casting.{pass_each}
use Rattle.dh_sql.proofs.Lists.{has_all, has_among}
use Rattle.dh_tables.specs.ChargeTable.{charge_cells, charge_columns, charge_shape}
use Rattle.dh_tables.specs.LeaseTable.{lease_cells, lease_columns, lease_shape}
use Rattle.dh_schema.specs.Store.{IsReady, tables}
use Rattle.dh_schema.specs.Tables.{AreInOrder, books_in}
use Rattle.dh_schema.proofs.Keyed.{keyed}
use Rattle.dh_runs.specs.Closing.{IsTooMuch, sum_of_parts, sum_over}
use Rattle.dh_runs.proofs.Along.{in_order}
use Rattle.dh_runs.proofs.PartSums.{parts_are_charges, same_count}

-- what holds of each record that a stored row is holds of each that the table shows
module _ {K X : Type 0} {R : K → K → Ordering} (total : IsTotalOrder R) (ties : IsAntisymmetric R) (it : Shape K X) (P : X → Type 0)
    (each : (r : Row) → IsStored it r → P (stored_in it r)) where
  each_shown : (trees : Trees) → IsKept it R trees → (k : K) (x : X) → get (rows_in it {R = R} trees) k ≡ Some x → P x
  each_shown trees kept k x at =
      let rows = trees it.tree in
      let entries = map (entry_in it) rows in
      let of = in_map (entry_in it) rows (k, x) (found_entry total ties entries k x (sym (get-from_entries total entries k) ∙ at)) in
      let stored = has_all (IsStored it) rows of.0 kept.values (has_among rows of.0 of.1) in
      subst P (sym (ap (λ (e : K × X). e.1) of.2)) (each of.0 stored)

in_bounds : (low high : ℕ) (v : Value) → is_number_cell low high v ≡ true → (low ≤ number_in v) × (number_in v ≤ high)
in_bounds low high (Int (pos n)) h =
    let parts = and_parts (nat_le low n) (nat_le n high) h in
    let from = parts.0 in
    let to = parts.1 in
    (grind (arith, nat_tests), grind (arith, nat_tests))
in_bounds low high (Int (negsuc n)) h = cc
in_bounds low high Null h = cc
in_bounds low high (Real x) h = cc
in_bounds low high (Text t) h = cc
in_bounds low high (Blob b) h = cc

is_numbered : (r : Row) → IsStored lease_shape r → IsLeaseNo (stored_in lease_shape r).terms.number
is_numbered r stored = in_bounds 1 MOST_NUMBER (column r 0) (pass_each lease_cells true (lease_columns r) stored).1.0

is_small : (r : Row) → IsStored charge_shape r → (stored_in charge_shape r).amount ≤ MOST_RENT
is_small r stored = (in_bounds 1 MOST_RENT (column r 5) (pass_each charge_cells true (charge_columns r) stored).1.1.1.1.1.0).1

sum_of_small : (charges : List Charge) → ((charge : Charge) → Among charges charge → charge.amount ≤ 999999) → total_of charges ≤ length charges * 999999
sum_of_small [] small = omega arith
sum_of_small (charge ∷ charges) small =
    let all = sum_by-cons (λ (it : Charge). it.amount) charge charges in
    let own = small charge (inl refl) in
    let rest = sum_of_small charges (λ other a. small other (inr a)) in
    omega (arith, all, own, rest)

module _ (trees : Trees) (order : AreInOrder trees) where
  rows_kept : AreKept (books_in trees).leases (books_in trees).parts
  rows_kept = record {
    numbered = keyed Leases trees;
    in_range = each_shown nat_total nat_ties lease_shape (λ lease. IsLeaseNo lease.terms.number) is_numbered trees (order.tables Leases tt).kept;
    parted = keyed Parts trees;
  }

  charge_small : (charge : Charge) → Among (values (books_in trees).charges) charge → charge.amount ≤ 999999
  charge_small charge a =
      let at = row_of nats_total nats_tie (books_in trees).charges charge a in
      each_shown nats_total nats_tie charge_shape (λ it. it.amount ≤ MOST_RENT) is_small trees (order.tables Charges tt).kept at.0 charge at.1

-- so many charges have a lease each, and none is more than a rent can be
module _ (s : State) (ready : IsReady s) (month : ℕ)
    (at_end : (tables s).open_run ≡ Some (record { month = month; done = batches batch_size (tables s).books month })) where
  abbrev books : Books
  books = (tables s).books

  abbrev run : OpenRun
  run = record { month = month; done = batches batch_size books month }

  order : IsInOrder batch_size books (Some run)
  order = subst (λ (it : Option OpenRun). IsInOrder batch_size books it) at_end (in_order s ready)

  few_charges : length (charges_in books month) ≤ 99999999
  few_charges =
      let same = same_count batch_size books month (omega arith) order in
      let posted = few_posted batch_size books month (batches batch_size books month) in
      let leases = few_leases books (rows_kept s.now.trees ready.sound.in_order) in
      omega (arith, same, posted, leases)

  small_total : total_of (charges_in books month) ≤ length (charges_in books month) * 999999
  small_total = sum_of_small (charges_in books month) (λ charge a.
      charge_small s.now.trees ready.sound.in_order charge (in_filter (λ (it : Charge). nat_eq it.month month) (values books.charges) charge a).0)

  same_sum : sum_of_parts month (parts_in books month) ≡ sum_over month (charges_in books month)
  same_sum = parts_are_charges batch_size books month (omega arith) order

  count_fits : sum_by (λ part. part.count) (parts_in books month) ≤ 99999999
  count_fits =
      let few = few_charges in
      let same = ap (λ (it : RunSum). it.count) same_sum in
      omega (arith, few, same)

  total_fits : sum_by (λ part. part.total) (parts_in books month) ≤ 99999999 * 999999
  total_fits =
      let few = few_charges in
      let small = small_total in
      let same = ap (λ (it : RunSum). it.total) same_sum in
      omega (arith, few, small, same)

  -- so they are not more than a run's row can have
  pub never_too_much : IsTooMuch (sum_of_parts month (parts_in books month)) → ⊥
  never_too_much much =
      let count = count_fits in
      let total = total_fits in
      elim much [
        | inl many ↦ omega (arith, many, count)
        | inr high ↦ omega (arith, high, total)
      ]

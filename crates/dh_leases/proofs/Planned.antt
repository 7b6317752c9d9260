-- The rows that are left of a run are a plan of it.
use Rattle.std.proofs.Common.{◌≡◌, ◌∙◌, sym, ap, subst, ℕ, ◌+◌, List, [], ◌∷◌, map, length, is_some, Some, arith}
use Rattle.std.specs.Prelude.{IfSome}
use Rattle.std.proofs.lemmas.List.{length-map}
use Rattle.std.specs.FinMap.{get}
use Rattle.dh_model.specs.Books.{Books, State, with_rows}
use Rattle.dh_model.specs.Runs.{batch_size, batches, charge_key, part_fee_key, part_key}
use Rattle.dh_model.specs.Whole.{with_posted}
use Rattle.dh_laws.specs.InOrder.{IsInOrder}
use Rattle.dh_laws.specs.StateTables.{IsStateInOrder}
use Rattle.dh_leases.specs.declared.plans.BatchRows.{BatchRows}
use Rattle.dh_leases.specs.declared.plans.Plan.{Plan}
use Rattle.dh_leases.specs.Plans.{AreNew, HasItsFeeRow, HasItsPart, HaveTheLeases, IsPlanOf, LeadOn, begins_at, some_row, stage, with_batch_rows}
use Rattle.dh_leases.specs.Rows.{Rows, all_rows_left, rows_of}
use Rattle.dh_leases.proofs.BatchBranch.{IsBatch}
use Rattle.dh_leases.proofs.BatchCharges.{charges_led, charges_new}
use Rattle.dh_leases.proofs.BranchRows.{fees_led, had_fee, had_row, part_rows, row_led}
use Rattle.dh_leases.proofs.Counted.{AreTheRest, all_counted}
use Rattle.dh_leases.proofs.Places.{AreFrom}

-- batches depend on the version, branches, fees, properties, leases and endings alone
same_rows_left : (books others : Books) (month done : ℕ) → HaveTheLeases books others
    → all_rows_left batch_size books month done ≡ all_rows_left batch_size others month done
same_rows_left books others month done h =
    λ i. let other : Books = record books {
      version = h.version i;
      branches = h.branches i;
      branch_fees = h.fees i;
      properties = h.properties i;
      leases = h.leases i;
      endings = h.endings i;
    } in
    all_rows_left batch_size other month done

module _ (books : Books) (month done : ℕ) (order : IsInOrder batch_size books (Some (record { month = month; done = done }))) where
  module _ (number : ℕ) (rows : BatchRows) (batch : IsBatch batch_size books month number (rows_of rows)) where
    rows_new : AreNew rows.charges.items (with_posted batch_size books month number).charges
    rows_new =
        let before = with_posted batch_size books month number in
        subst (λ (r : Rows). AreNew r.0 before.charges) (sym batch.is)
        (charges_new batch_size books month number (omega arith) order.keyed batch.held order.rules)

    rows_begun : HasItsPart rows (stage books month number)
    rows_begun =
        let before = with_posted batch_size books month number in
        let had = had_row batch_size books month number (omega arith) order.keyed batch.held (part_rows batch_size books month order.keyed order.rules) in
        let fed = had_fee batch_size books month order.keyed order.rules number (omega arith) batch.held in
        let HadRows : Rows → Type 0 = λ r. (r.3 ≡ is_some (get before.parts (part_key r.1)))
        × IfSome r.2 (HasItsFeeRow r.3 (stage books month number)) in
        let both = subst HadRows (sym batch.is) (had, fed) in
        record { part = both.0; fee = both.1 }

    rows_lead : with_batch_rows rows (stage books month number) ≡ stage books month (number + 1)
    rows_lead =
        let before = with_posted batch_size books month number in
        let charges = ap (λ (r : Rows). with_rows charge_key r.0 before.charges) batch.is
        ∙ charges_led batch_size books month number (omega arith) order.keyed batch.held order.rules in
        let parts = ap (λ (r : Rows). with_rows part_key (r.1 ∷ []) before.parts) batch.is
        ∙ row_led batch_size books month number (omega arith) order.keyed batch.held (part_rows batch_size books month order.keyed order.rules) in
        let fees = ap (λ (r : Rows). with_rows part_fee_key (some_row r.2) before.part_fees) batch.is
        ∙ fees_led batch_size books month order.keyed order.rules number (omega arith) batch.held in
        λ i. record {
          books = record books { charges = charges i; parts = parts i; part_fees = fees i };
          open_run = Some (record { month = month; done = number + 1 });
        }

  -- the rows of the batches from a number on, to the last, lead on from there
  lead_on : (number : ℕ) (left : List BatchRows) → AreFrom (IsBatch batch_size books month) number (map rows_of left)
      → number + length left ≡ batches batch_size books month → LeadOn books month number left
  lead_on number [] are count = omega (arith, count)
  lead_on number (rows ∷ left) are count = (
    record { new = rows_new number rows are.0; begun = rows_begun number rows are.0; goes = rows_lead number rows are.0 },
    lead_on (number + 1) left are.1 (omega (arith, count)),
  )

-- rows that are left over books are a plan over tables with the same leases
pub is_plan : (books : Books) (plan : Plan) → map rows_of plan.batches.items ≡ all_rows_left batch_size books plan.month plan.done
    → (t : State) → IsStateInOrder t → t.open_run ≡ Some (begins_at plan) → HaveTheLeases books t.books → IsPlanOf plan t
is_plan books plan rows t order shown have =
    let here : IsInOrder batch_size t.books (Some (begins_at plan)) = subst (λ it. IsInOrder batch_size t.books it) shown order in
    let rest : AreTheRest batch_size t.books plan.month plan.done (map rows_of plan.batches.items) =
    subst (AreTheRest batch_size t.books plan.month plan.done) (sym (rows ∙ same_rows_left books t.books plan.month plan.done have))
    (all_counted batch_size t.books plan.month plan.done here.shown.3.few) in
    record {
      shown = shown;
      leads = lead_on t.books plan.month plan.done here plan.done plan.batches.items rest.batches_from
          (omega (arith, rest.count, length-map plan.batches.items rows_of));
    }

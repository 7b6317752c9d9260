-- Runs, months and the open run, where a lease is added or a run begins.
use Rattle.std.proofs.Common.{◌≡◌, ◌∙◌, refl, sym, ap, subst, inl, inr, ℕ, ◌+◌, ◌<◌, ◌≤◌, true, false, not, nat_eq, nat_lt, Option, Some, None, is_some}
use Rattle.std.proofs.Common.{ltb-true, arith}
use Rattle.std.specs.List.{IsAmong, find}
use Rattle.std.specs.FinMap.{get, insert, keys, values}
use Rattle.std.proofs.lemmas.Bool.{cases_lt}
use Rattle.dh_days.specs.Days.{month_of_day}
use Rattle.dh_types.specs.declared.lease.Lease.{Lease}
use Rattle.dh_types.specs.declared.lease.Charge.{Charge}
use Rattle.dh_types.specs.declared.run.Run.{Run}
use Rattle.dh_types.specs.declared.run.Part.{Part}
use Rattle.dh_types.proofs.SameValues.{numbers}
use Rattle.dh_model.specs.Books.{Books, StandUnder}
use Rattle.dh_model.specs.Runs.{batch_of, batches_before, begun_branches, dues_of_branch, part_of, posted_charges, posted_of_branch, posted_parts}
use Rattle.dh_model.specs.Rules.{ArePosted, IsThere, MonthIsClosed, MonthIsOpen, MonthsInOrder, RunsInOrder, charges_in, parts_in}
use Rattle.dh_model.specs.Whole.{open_row}
use Rattle.dh_model.proofs.Among.{Among, among, in_filter, in_flat_map, in_map, is_among, of_left}
use Rattle.dh_model.proofs.KeyOrders.{nat_total, nat_ties}
use Rattle.dh_model.proofs.MapRows.{each_insert, got_after, new_is_there, of_row, row_of, there, there_after, values_new}
use Rattle.dh_laws.proofs.MonthLemmas.Alike.{closed_alike, have_same}
use Rattle.dh_laws.proofs.MonthLemmas.Dues.{branch_after_lease, dues_after_lease}
use Rattle.dh_laws.proofs.MonthLemmas.Shown.{all_closed, found_after}
use Rattle.dh_laws.proofs.MonthLemmas.Keep.{RunInMonths, frozen_keeps, untouched}

absent : {X : Type 0} (found : Option X) → (is_some found ≡ true → ⊥) → found ≡ None
absent None never = refl
absent (Some x) never = absurd (never refl)

module _ (books : Books) (keyed : StandUnder (λ (it : Run). it.month) books.runs) where
  pub run_is_there : (run : Run) → Among (values books.runs) run → IsThere books.runs run.month
  run_is_there run a =
      let r = row_of nat_total nat_ties books.runs run a in
      (there nat_total nat_ties books.runs run.month).1 (run, ap (get books.runs) (keyed r.0 run r.1) ∙ r.1)

  -- a run is of a month before the next
  pub run_within : RunsInOrder books → (run : Run) → Among (values books.runs) run → (books.first ≤ run.month) × (run.month < books.next)
  run_within in_order run a = (in_order.run run.month).0 (run_is_there run a)

-- a lease that starts in the next month or later
pub lease_keeps : (size : ℕ) (b : Books) (number : ℕ) (lease : Lease) → StandUnder (λ (it : Run). it.month) b.runs → get b.leases number ≡ None
    → b.next ≤ month_of_day lease.terms.start
    → RunInMonths size b None → RunInMonths size (record b { leases = insert b.leases number lease }) None
lease_keeps size b number lease keyed fresh later in_order =
    let c : Books = record b { leases = insert b.leases number lease } in
    frozen_keeps size b c refl refl refl refl refl (λ run a.
    let within = run_within b keyed in_order.runs run a in
    let before : run.month < month_of_day lease.terms.start = omega (arith, within.1, later) in
    record {
      charges = have_same (charges_in b run.month);
      parts = have_same (parts_in b run.month);
      part = λ branch h. h;
      branches = λ branch h owing. h;
      dues = dues_after_lease run.month b number lease fresh before;
      of_branch = branch_after_lease run.month b number lease fresh before;
    }) in_order

-- with no batch nothing is posted
none_posted : (size : ℕ) (books : Books) (month : ℕ) (charge : Charge) → Among (posted_charges size books month 0) charge → ⊥
none_posted size books month charge a =
    let of = in_flat_map (posted_of_branch size books month 0) (keys books.branches) charge a in
    let kept = in_filter (λ c. nat_lt (batch_of size books month of.0 c) 0) (dues_of_branch books month of.0) charge of.2 in
    let less = ltb-true (batch_of size books month of.0 charge) 0 kept.1 in
    omega (arith, less)

none_begun : (size : ℕ) (books : Books) (month : ℕ) (part : Part) → Among (posted_parts size books month 0) part → ⊥
none_begun size books month part a =
    let of = in_map (λ b. part_of month b (posted_of_branch size books month 0 b)) (begun_branches size books month 0) part a in
    let kept = in_filter (λ b. nat_lt (batches_before size books month b) 0) (keys books.branches) of.0 of.1 in
    let less = ltb-true (batches_before size books month of.0) 0 kept.1 in
    omega (arith, less)

-- a run that begins in the next month
module _ (size : ℕ) (b : Books) (row : Run) (keyed : StandUnder (λ (it : Run). it.month) b.runs) (in_order : RunInMonths size b None)
    (next : row.month ≡ b.next)
    (open_is : row.is_closed ≡ false) (count : row.count ≡ 0) (total : row.total ≡ 0) where
  abbrev after : Books
  after = record b { runs = insert b.runs row.month row; next = row.month + 1 }

  not_there : IsThere b.runs row.month → ⊥
  not_there h = let within = (in_order.runs.run row.month).0 h in omega (arith, within.1, next)

  fresh : get b.runs row.month ≡ None
  fresh = absent (get b.runs row.month) not_there

  closed_before : (k : ℕ) (run : Run) → get b.runs k ≡ Some run → run.is_closed ≡ true
  closed_before k run e = all_closed b in_order.shown run (of_row nat_total nat_ties b.runs k run e)

  there_or_new : (month : ℕ) → IsThere after.runs month → (b.first ≤ month) × (month < row.month + 1)
  there_or_new month h =
      let is = (there nat_total nat_ties after.runs month).0 h in
      let from = in_order.runs.months in
      elim (got_after nat_total nat_ties b.runs row.month row month is.0 is.1) [
        | inl new ↦ let same = new.0 in (omega (arith, same, next, from), omega (arith, same))
        | inr old ↦ let within = (in_order.runs.run month).0 ((there nat_total nat_ties b.runs month).1 (is.0, old.1)) in
            (within.0, omega (arith, within.1, next))
      ]

  runs_after : RunsInOrder after
  runs_after = record {
    months = let from = in_order.runs.months in omega (arith, from, next);
    run = λ month. (
      there_or_new month,
      λ h. elim (cases_lt month b.next) [
        | inl less ↦ there_after nat_total nat_ties b.runs row.month row month ((in_order.runs.run month).1 (h.0, less))
        | inr more ↦ let same : month ≡ row.month = (let until = h.1 in omega (arith, until, more, next)) in
            subst (λ m. IsThere after.runs m) (sym same) (new_is_there nat_total nat_ties b.runs row.month row)
      ],
    );
    closed = each_insert nat_total nat_ties b.runs row.month row (λ run. run.month + 1 < row.month + 1 → run.is_closed ≡ true)
        (λ less. absurd (omega (arith, less))) (λ q run other e less. closed_before q run e);
  }

  none_charged : (charge : Charge) → IsAmong (charges_in b row.month) charge → ⊥
  none_charged charge a =
      let kept = in_filter (λ (c : Charge). nat_eq c.month row.month) (values b.charges) charge (among (charges_in b row.month) charge a) in
      let its = (numbers charge.month row.month).0 kept.1 in
      not_there (subst (λ m. IsThere b.runs m) its (in_order.months.charged charge (is_among (values b.charges) charge kept.0)))

  none_summed : (part : Part) → IsAmong (parts_in b row.month) part → ⊥
  none_summed part a =
      let kept = in_filter (λ (p : Part). nat_eq p.month row.month) (values b.parts) part (among (parts_in b row.month) part a) in
      let its = (numbers part.month row.month).0 kept.1 in
      not_there (subst (λ m. IsThere b.runs m) its (in_order.months.summed part (is_among (values b.parts) part kept.0)))

  none_done : ArePosted after size row.month 0
  none_done = record {
    few = omega arith;
    charges = λ charge. (
      λ a. absurd (none_charged charge a),
      λ a. absurd (none_posted size after row.month charge (among (posted_charges size after row.month 0) charge a)),
    );
    parts = λ part. (λ a. absurd (none_summed part a), λ a. absurd (none_begun size after row.month part (among (posted_parts size after row.month 0) part a)));
  }

  months_after : MonthsInOrder after size
  months_after = record {
    closed = each_insert nat_total nat_ties b.runs row.month row (λ run. run.is_closed ≡ true → MonthIsClosed after run)
        (λ is. absurd (let closed = is in cc))
        (λ q run other e is. let same = untouched b after run.month refl refl refl refl refl refl in
        closed_alike b after run same.same (in_order.months.closed run (is_among (values b.runs) run (of_row nat_total nat_ties b.runs q run e)) is));
    under_way = each_insert nat_total nat_ties b.runs row.month row (λ run. run.is_closed ≡ false → MonthIsOpen after size run)
        (λ is. record { done = 0; posted = none_done; count = count; total = total })
        (λ q run other e is. absurd (let closed = closed_before q run e in cc));
    charged = λ charge a. there_after nat_total nat_ties b.runs row.month row charge.month (in_order.months.charged charge a);
    summed = λ part a. there_after nat_total nat_ties b.runs row.month row part.month (in_order.months.summed part a);
  }

  shown_after : open_row after ≡ Some row
  shown_after =
      let p = values_new nat_total nat_ties b.runs row.month row fresh in
      ap (find (λ run. not run.is_closed)) p.is
      ∙ found_after (λ run. not run.is_closed) p.before p.after row
      (λ run a. ap not (all_closed b in_order.shown run (subst (λ xs. Among xs run) (sym p.was) (of_left p.before p.after run a)))) (ap not open_is)

  pub open_keeps : RunInMonths size (record b { runs = insert b.runs row.month row; next = row.month + 1 }) (Some (record { month = row.month; done = 0 }))
  open_keeps = record { runs = runs_after; months = months_after; shown = (row, shown_after, refl, none_done) }

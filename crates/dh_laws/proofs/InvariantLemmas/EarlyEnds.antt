-- Books in which a lease is ended early.
use Rattle.std.proofs.Common.{◌≡◌, ◌≢◌, ◌∙◌, refl, sym, ap, subst, inl, inr, ℕ, zero, suc, ◌+◌, ◌-◌, ◌<◌, ◌≤◌, false, cond, List, [], ◌∷◌, ◌++◌, map, arith}
use Rattle.std.proofs.Common.{Option, Some, None, IfSome}
use Rattle.std.specs.List.{filter, range_with_len}
use Rattle.std.specs.FinMap.{get, insert, values}
use Rattle.std.proofs.lemmas.Bool.{false_from_ne_true}
use Rattle.std.proofs.lemmas.List.{append-nil}
use Rattle.std.proofs.lemmas.List.FromFn.{filter_of_map_range_with_len_more}
use Rattle.dh_values.specs.declared.limits.TheConstants.{LEAST_LEASE_MONTHS}
use Rattle.dh_days.specs.Days.{month_of_day}
use Rattle.dh_types.specs.declared.lease.Lease.{Lease}
use Rattle.dh_types.specs.declared.lease.Charge.{Charge}
use Rattle.dh_types.specs.declared.lease.Ending.{Ending}
use Rattle.dh_types.proofs.SameValues.{numbers}
use Rattle.dh_model.specs.declared.open_run.OpenRun.{OpenRun}
use Rattle.dh_model.specs.declared.rows.Change.{Change}
use Rattle.dh_types.specs.declared.command.Command.TheVariants as command
use Rattle.dh_model.specs.Books.{Books}
use Rattle.dh_model.specs.Kinds.{Kind}
use Rattle.dh_model.specs.Leases.{due, dues, dues_among, dues_of, length_of, months_in, overlap, running}
use Rattle.dh_model.specs.Machine.{changed}
use Rattle.dh_model.specs.Rules.{EndingsInOrder, IsEarly, LeasesNeverOverlap, charges_in, parts_in}
use Rattle.dh_model.specs.Runs.{dues_of_branch, is_property_of, leases_of_branch}
use Rattle.dh_model.proofs.Among.{Among, in_filter, is_among}
use Rattle.dh_model.proofs.DueLemmas.{falls_in}
use Rattle.dh_model.proofs.KeyOrders.{nat_total, nat_ties}
use Rattle.dh_model.proofs.LeaseLemmas.{fewer_months_are_free, overlap_goes_both_ways}
use Rattle.dh_model.proofs.MapRows.{cases_key, each_insert, get_new, get_other, inside, of_row, row_of}
use Rattle.dh_model.proofs.Pairs.{pairs_rise, rising_pairs}
use Rattle.dh_model.proofs.Rising.{rises_among}
use Rattle.dh_laws.specs.Balances.{EndsKeepDues}
use Rattle.dh_laws.specs.InOrder.{AreKeyed}
use Rattle.dh_laws.proofs.VerdictLemmas.Acceptance.{Accepted, EndsLease}
use Rattle.dh_laws.proofs.InvariantLemmas.Fees.{of_found}
use Rattle.dh_laws.proofs.MonthLemmas.Alike.{have_same}
use Rattle.dh_laws.proofs.MonthLemmas.Dues.{dues_first}
use Rattle.dh_laws.proofs.MonthLemmas.Keep.{RunInMonths, frozen_keeps}
use Rattle.dh_laws.proofs.MonthLemmas.Open.{run_within}
use Rattle.dh_laws.proofs.VerdictLemmas.Cases.{case_of, of_ending}

-- what falls due in a month is the same, if a lease runs for more months than reach it
module _ (month : ℕ) (lease : Lease) (m : ℕ) (late : month < month_of_day lease.terms.start + m) where
  abbrev dues_below : ℕ → List Charge
  dues_below n = filter (falls_in month) (map (due lease) (range_with_len 0 n))

  not_due : (k : ℕ) → m ≤ k → falls_in month (due lease k) ≡ false
  not_due k most = false_from_ne_true (falls_in month (due lease k)) (λ yes.
      let is = (numbers (month_of_day lease.terms.start + k) month).0 yes in
      omega (arith, is, late, most))

  none_beyond : (more : ℕ) → dues_below (m + more) ≡ dues_below m
  none_beyond zero = ap dues_below (omega arith)
  none_beyond (suc more) =
      let last = m + more in
      let next : m + suc more ≡ last + 1 = omega arith in
      ap dues_below next
      ∙ filter_of_map_range_with_len_more (falls_in month) (due lease) 0 last last (omega arith)
      ∙ ap (λ b. dues_below last ++ cond b (due lease last ∷ []) []) (not_due last (omega arith))
      ∙ append-nil (dues_below last)
      ∙ none_beyond more

module _ (b : Books) (keyed : AreKeyed b) (run : Option OpenRun) (it : Ending) (ends : EndsLease b run it) where
  abbrev pub after_end : Books
  after_end = record b { endings = insert b.endings it.lease it }

  number_is : ends.lease.terms.number ≡ it.lease
  number_is = keyed Kind.Leases it.lease ends.lease ends.is

  -- no other lease has its number
  its_lease : (lease : Lease) → Among (values b.leases) lease → lease.terms.number ≡ it.lease → lease ≡ ends.lease
  its_lease lease a same =
      let row = row_of nat_total nat_ties b.leases lease a in
      let own = keyed Kind.Leases row.0 lease row.1 in
      let key : it.lease ≡ row.0 = sym same ∙ own in
      inside lease ends.lease (sym row.1 ∙ ap (get b.leases) (sym key) ∙ ends.is)

  new_length : (lease : Lease) → lease.terms.number ≡ it.lease → length_of after_end.endings lease ≡ it.months
  new_length lease same = ap (months_in lease.terms.months) (ap (get after_end.endings) same ∙ get_new nat_total nat_ties b.endings it.lease it)

  same_length : (lease : Lease) → lease.terms.number ≢ it.lease → length_of after_end.endings lease ≡ length_of b.endings lease
  same_length lease other = ap (months_in lease.terms.months) (get_other nat_total nat_ties b.endings it.lease it lease.terms.number other)

  -- it was longer
  was_longer : (lease : Lease) → Among (values b.leases) lease → lease.terms.number ≡ it.lease → it.months < length_of b.endings lease
  was_longer lease a same = subst (λ l. it.months < length_of b.endings l) (sym (its_lease lease a same)) ends.shorter

  runs_no_longer : (lease : Lease) → Among (values b.leases) lease → length_of after_end.endings lease ≤ length_of b.endings lease
  runs_no_longer lease a = elim (cases_key nat_total nat_ties lease.terms.number it.lease) [
    | inl same ↦ let now = new_length lease same in let was = was_longer lease a same in omega (arith, now, was)
    | inr other ↦ let stays = same_length lease other in omega (arith, stays)
  ]

  -- ---- rules 4 and 12

  still_free : (lease other : Lease) → Among (values b.leases) lease → Among (values b.leases) other
      → overlap (running b.endings lease) (running b.endings other) ≡ false
      → overlap (running after_end.endings lease) (running after_end.endings other) ≡ false
  still_free lease other a o free =
      let first = fewer_months_are_free lease.terms (running b.endings other) (length_of after_end.endings lease) (length_of b.endings lease)
      (runs_no_longer lease a) free in
      let turned = overlap_goes_both_ways (running b.endings other) (running after_end.endings lease) ∙ first in
      let second = fewer_months_are_free other.terms (running after_end.endings lease) (length_of after_end.endings other) (length_of b.endings other)
      (runs_no_longer other o) turned in
      overlap_goes_both_ways (running after_end.endings lease) (running after_end.endings other) ∙ second

  pub overlaps_after_end : LeasesNeverOverlap b → LeasesNeverOverlap after_end
  overlaps_after_end never =
      let before = λ (lease other : Lease). overlap (running b.endings lease) (running b.endings other) ≡ false in
      let now = λ (lease other : Lease). overlap (running after_end.endings lease) (running after_end.endings other) ≡ false in
      rising_pairs now (values b.leases) (rises_among before now (values b.leases) still_free (pairs_rise before (values b.leases) never))

  -- no ending lengthens its lease
  within_own : EndingsInOrder b → (found : Option Ending) → get b.endings ends.lease.terms.number ≡ found
      → months_in ends.lease.terms.months found ≤ ends.lease.terms.months
  within_own in_order None e = omega arith
  within_own in_order (Some was) e =
      let its = keyed Kind.Endings ends.lease.terms.number was e in
      let rule = in_order was (is_among (values b.endings) was (of_row nat_total nat_ties b.endings ends.lease.terms.number was e)) in
      let found : get b.leases was.lease ≡ Some ends.lease = ap (get b.leases) (its ∙ number_is) ∙ ends.is in
      let fewer = of_found (λ (lease : Lease). was.months < lease.terms.months) (get b.leases was.lease) ends.lease rule.1 found in
      omega (arith, fewer)

  pub endings_after_end : LEAST_LEASE_MONTHS ≤ it.months → EndingsInOrder b → EndingsInOrder after_end
  endings_after_end least in_order =
      let own = within_own in_order (get b.endings ends.lease.terms.number) refl in
      let shorter = ends.shorter in
      let fewer : it.months < ends.lease.terms.months = omega (arith, own, shorter) in
      each_insert nat_total nat_ties b.endings it.lease it
      (λ ending. IsEarly ending (get b.leases ending.lease))
      (least, subst (λ found. IfSome found (λ (lease : Lease). it.months < lease.terms.months)) (sym ends.is) fewer)
      (λ k other apart e. in_order other (is_among (values b.endings) other (of_row nat_total nat_ties b.endings k other e)))

  -- ---- what falls due in a month that was run

  module _ (month : ℕ) (before : month < b.next) where
    due_alike : (lease : Lease) → Among (values b.leases) lease
        → filter (falls_in month) (dues_of after_end.endings lease) ≡ filter (falls_in month) (dues_of b.endings lease)
    due_alike lease a = elim (cases_key nat_total nat_ties lease.terms.number it.lease) [
      | inl same ↦
          let is = its_lease lease a same in
          let start : month_of_day lease.terms.start ≡ month_of_day ends.lease.terms.start = ap (λ (l : Lease). month_of_day l.terms.start) is in
          let in_time = ends.in_time in
          let late : month < month_of_day lease.terms.start + it.months = omega (arith, before, start, in_time) in
          let was = was_longer lease a same in
          let more = length_of b.endings lease - it.months in
          let all : length_of b.endings lease ≡ it.months + more = omega (arith, was) in
          ap (dues_below month lease it.months late) (new_length lease same) ∙ sym (none_beyond month lease it.months late more)
          ∙ ap (dues_below month lease it.months late) (sym all)
      | inr other ↦ ap (λ n. filter (falls_in month) (map (due lease) (range_with_len 0 n))) (same_length lease other)
    ]

    among_alike : (leases : List Lease) → ((lease : Lease) → Among leases lease → Among (values b.leases) lease)
        → dues_among after_end.endings leases month ≡ dues_among b.endings leases month
    among_alike [] all = refl
    among_alike (lease ∷ leases) all =
        dues_first after_end.endings month lease leases
        ∙ (λ i. due_alike lease (all lease (inl refl)) i ++ among_alike leases (λ x a. all x (inr a)) i)
        ∙ sym (dues_first b.endings month lease leases)

    pub dues_after_end : dues after_end month ≡ dues b month
    dues_after_end = among_alike (values b.leases) (λ lease a. a)

    pub branch_after_end : (branch : List ℕ) → dues_of_branch after_end month branch ≡ dues_of_branch b month branch
    branch_after_end branch = among_alike (leases_of_branch b branch) (λ lease a.
        (in_filter (λ it. is_property_of branch (get b.properties it.terms.property)) (values b.leases) lease a).0)

  pub ending_keeps : (size : ℕ) → RunInMonths size b None → RunInMonths size after_end None
  ending_keeps size in_order =
      frozen_keeps size b after_end refl refl refl refl refl (λ run a.
      let within = run_within b (keyed Kind.Runs) in_order.runs run a in
      record {
        charges = have_same (charges_in b run.month);
        parts = have_same (parts_in b run.month);
        part = λ branch h. h;
        branches = λ branch h owing. h;
        dues = dues_after_end run.month within.1;
        of_branch = branch_after_end run.month within.1;
      }) in_order

-- ---- so it is for each end that is accepted

pub ends_keep_dues : EndsKeepDues
ends_keep_dues books run it rows month keyed accepted before =
    let found = get books.endings it.lease in
    let case = case_of books run rows (command.End it) accepted in
    let ends = of_ending (λ said. Accepted books run said → EndsLease books run it) it found (λ none a. a.fits)
    (λ was is a. a.fits) case.1 in
    ap (λ (said : Change). dues (changed said books) month) case.0
    ∙ ap (λ (after : Books). dues after month)
    (of_ending (λ said. changed said books ≡ record books { endings = insert books.endings it.lease it }) it found (λ none. refl) (λ was is. refl))
    ∙ dues_after_end books keyed run it ends month before

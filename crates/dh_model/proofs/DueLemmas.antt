-- What falls due.
use Rattle.std.proofs.Common.{◌≡◌, ◌∙◌, sym, subst, ℕ, zero, suc, ◌<◌, ◌≤◌, Bool, nat_eq, List, arith}
use Rattle.std.specs.List.{IsAmong, flat_map, range_with_len}
use Rattle.std.specs.FinMap.{values}
use Rattle.std.proofs.lemmas.List.FromFn.{length-map-range_with_len}
use Rattle.dh_days.specs.Days.{IsDay, plus_months}
use Rattle.dh_days.proofs.DayMonths.{month_of_months_later, more_months_later, zero_months_later_is_the_day}
use Rattle.dh_types.specs.declared.lease.Lease.{Lease}
use Rattle.dh_types.specs.declared.lease.Charge.{Charge}
use Rattle.dh_types.proofs.SameValues.{numbers}
use Rattle.dh_model.specs.Books.{Books, Endings}
use Rattle.dh_model.specs.Leases.{Covers, due, dues, dues_among, dues_of, length_of, running}
use Rattle.dh_model.specs.Laws.{DuesAreThoseOfLeases, DuesLieInTheirMonth, DuesNumberTheMonths, MonthsShareNoDue, OneDueInAMonth}
use Rattle.dh_model.proofs.Among.{Among, among, in_filter, in_flat_map, in_map, in_range, is_among, of_filter, of_flat_map, of_map, of_range}

-- the lease and the index of a charge that falls due in a month
pub record IsDue (endings : Endings) (leases : List Lease) (month : ℕ) (charge : Charge) : Type 0 where
  pub lease : Lease
  pub k : ℕ
  pub of : Among leases lease
  pub within : k < length_of endings lease
  pub is : charge ≡ due lease k
  pub month_is : charge.month ≡ month

abbrev pub falls_in : ℕ → Charge → Bool
falls_in month charge = nat_eq charge.month month

pub is_due : (endings : Endings) (leases : List Lease) (month : ℕ) (charge : Charge) → Among (dues_among endings leases month) charge
    → IsDue endings leases month charge
is_due endings leases month charge h =
    let kept = in_filter (falls_in month) (flat_map (dues_of endings) leases) charge h in
    let made = in_flat_map (dues_of endings) leases charge kept.0 in
    let place = in_map (due made.0) (range_with_len 0 (length_of endings made.0)) charge made.2 in
    let within = in_range 0 (length_of endings made.0) place.0 place.1 in
    record { lease = made.0; k = place.0; of = made.1; within = omega (arith, within.1); is = place.2; month_is = (numbers charge.month month).0 kept.1 }

due_of : (endings : Endings) (lease : Lease) (k : ℕ) → k < length_of endings lease → Among (dues_of endings lease) (due lease k)
due_of endings lease k h =
    of_map (due lease) (range_with_len 0 (length_of endings lease)) k (of_range 0 (length_of endings lease) k (omega arith) (omega (arith, h)))

of_due : (endings : Endings) (leases : List Lease) (month : ℕ) (charge : Charge) → IsDue endings leases month charge
    → Among (dues_among endings leases month) charge
of_due endings leases month charge d =
    let made : Among (dues_of endings d.lease) charge = rw d.is (due_of endings d.lease d.k d.within) in
    of_filter (falls_in month) (flat_map (dues_of endings) leases) charge ((numbers charge.month month).1 d.month_is)
    (of_flat_map (dues_of endings) leases d.lease charge d.of made)

pub dues_are_those_of_leases : DuesAreThoseOfLeases
dues_are_those_of_leases books month charge =
    let leases = values books.leases in (
      λ h. let d = is_due books.endings leases month charge (among (dues books month) charge h) in
          (d.lease, d.k, is_among leases d.lease d.of, d.within, d.is, d.month_is),
      λ h. is_among (dues books month) charge
          (of_due books.endings leases month charge (record { lease = h.0; k = h.1; of = among leases h.0 h.2; within = h.3; is = h.4; month_is = h.5 })),
    )

pub month_of_due : (books : Books) (month : ℕ) (charge : Charge) → IsAmong (dues books month) charge → charge.month ≡ month
month_of_due books month charge h = (is_due books.endings (values books.leases) month charge (among (dues books month) charge h)).month_is

pub months_share_no_due : MonthsShareNoDue
months_share_no_due books m n charge g h = sym (month_of_due books m charge g) ∙ month_of_due books n charge h

pub dues_number_the_months : DuesNumberTheMonths
dues_number_the_months endings lease = length-map-range_with_len (due lease) 0 (length_of endings lease)

pub dues_lie_in_their_month : DuesLieInTheirMonth
dues_lie_in_their_month lease k = month_of_months_later lease.terms.start k

pub one_due_in_a_month : OneDueInAMonth
one_due_in_a_month lease j k h = omega (arith, h)

-- what months later than a day of the calendar is no earlier
no_earlier : (start k : ℕ) → IsDay start → start ≤ plus_months start k
no_earlier start zero is = subst (λ d. start ≤ d) (sym (zero_months_later_is_the_day start is)) (omega arith)
no_earlier start (suc k) is =
    let first = zero_months_later_is_the_day start is in
    let more = more_months_later start 0 (suc k) (omega arith) in
    omega (arith, first, more)

-- where the lease starts on a day of the calendar, each due lies on a day that it covers
pub due_is_covered : (endings : Endings) (lease : Lease) (k : ℕ) → IsDay lease.terms.start → k < length_of endings lease
    → Covers (running endings lease) (due lease k).day
due_is_covered endings lease k is h = (no_earlier lease.terms.start k is, more_months_later lease.terms.start k (length_of endings lease) h)

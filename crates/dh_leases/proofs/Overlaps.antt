-- Overlap by the starts and the ends.
use Rattle.std.proofs.Common.{◌≡◌, ℕ, ◌<◌, ◌≤◌, Bool, true, ◌&&◌, nat_eq, nat_lt, arith, lt-ltb, ltb-true}
use Rattle.std.specs.Cmp.Lexicographic.{pointwise}
use Rattle.std.proofs.lemmas.Bool.{and_from, and_parts}
use Rattle.std.proofs.lemmas.Bool.Decides.{same_from_decides}
use Rattle.dh_days.specs.Days.{IsDay, plus_months}
use Rattle.dh_days.proofs.DayMonths.{more_months_later, zero_months_later_is_the_day}
use Rattle.dh_types.specs.declared.lease.LeaseTerms.{LeaseTerms}
use Rattle.dh_types.proofs.SameValues.{texts}
use Rattle.dh_model.specs.Leases.{end_of, overlap}
use Rattle.dh_model.proofs.LeaseLemmas.{overlap_is_by_ends}

-- a start lies before the end
pub starts_before : (start months : ℕ) → IsDay start → 1 ≤ months → start < plus_months start months
starts_before start months is some = omega (arith, zero_months_later_is_the_day start is, more_months_later start 0 months (omega arith))

-- of one property, the one starts before the other's end, and the other before the one's
abbrev pub by_ends : LeaseTerms → LeaseTerms → Bool
by_ends lease other = (pointwise nat_eq lease.property other.property && nat_lt lease.start (end_of other)) && nat_lt other.start (end_of lease)

abbrev ByEnds : LeaseTerms → LeaseTerms → Type 0
ByEnds lease other = (lease.property ≡ other.property) × (lease.start < end_of other) × (other.start < end_of lease)

tested : (lease other : LeaseTerms) → by_ends lease other ≡ true → ByEnds lease other
tested lease other h =
    let parts = and_parts (pointwise nat_eq lease.property other.property && nat_lt lease.start (end_of other)) (nat_lt other.start (end_of lease)) h in
    let first = and_parts (pointwise nat_eq lease.property other.property) (nat_lt lease.start (end_of other)) parts.0 in
    ((texts lease.property other.property).0 first.0, ltb-true lease.start (end_of other) first.1, ltb-true other.start (end_of lease) parts.1)

of_tested : (lease other : LeaseTerms) → ByEnds lease other → by_ends lease other ≡ true
of_tested lease other h =
    and_from (pointwise nat_eq lease.property other.property && nat_lt lease.start (end_of other)) (nat_lt other.start (end_of lease))
    (and_from (pointwise nat_eq lease.property other.property) (nat_lt lease.start (end_of other)) ((texts lease.property other.property).1 h.0)
    (lt-ltb lease.start (end_of other) h.1))
    (lt-ltb other.start (end_of lease) h.2)

pub overlap_by_ends : (lease other : LeaseTerms) → IsDay lease.start → IsDay other.start → lease.start < end_of lease → other.start < end_of other
    → overlap lease other ≡ by_ends lease other
overlap_by_ends lease other s t p q =
    same_from_decides {P = ByEnds lease other} (overlap lease other) (by_ends lease other)
    (overlap_is_by_ends lease other s t p q)
    (tested lease other, of_tested lease other)

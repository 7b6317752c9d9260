-- When leases overlap.
use Rattle.std.proofs.Common.{◌≡◌, sym, subst, inl, inr, ℕ, ◌+◌, ◌-◌, ◌<◌, ◌≤◌, true, false, nat_le, nat_lt, nat_eq, arith, le-leb, leb-true, lt-ltb, ltb-true}
use Rattle.std.specs.List.{list_any, range_with_len}
use Rattle.std.specs.Cmp.Lexicographic.{pointwise}
use Rattle.std.proofs.lemmas.Bool.{and_from, and_parts, cases_lt, false_from_ne_true}
use Rattle.std.proofs.lemmas.Bool.Decides.{same_from_decides}
use Rattle.dh_days.specs.Days.{IsDay, days_in, month_of_day, number_in_month, plus_months}
use Rattle.dh_days.proofs.DayMonths.{more_months_later}
use Rattle.dh_types.specs.declared.lease.LeaseTerms.{LeaseTerms}
use Rattle.dh_types.proofs.SameValues.{texts}
use Rattle.dh_model.specs.Leases.{Covers, covers, days_of, end_of, is_day, overlap}
use Rattle.dh_model.specs.Laws.{OverlapGoesBothWays, OverlapIsByEnds, OverlapIsCommonDay}
use Rattle.dh_model.proofs.Among.{Among, in_filter, in_range, of_filter, of_passes, of_range, some_passes}

pub covered : (lease : LeaseTerms) (day : ℕ) → covers lease day ≡ true → Covers lease day
covered lease day h =
    let parts = and_parts (nat_le lease.start day) (nat_lt day (end_of lease)) h in
    (leb-true lease.start day parts.0, ltb-true day (end_of lease) parts.1)

pub of_covered : (lease : LeaseTerms) (day : ℕ) → Covers lease day → covers lease day ≡ true
of_covered lease day h = and_from (nat_le lease.start day) (nat_lt day (end_of lease)) (le-leb lease.start day h.0) (lt-ltb day (end_of lease) h.1)

-- from a on as many as reach the end lie before it
before_end : (a end day : ℕ) → a ≤ day → day < a + (end - a) → day < end
before_end a end day p q = omega arith

of_before_end : (a end day : ℕ) → a ≤ day → day < end → day < a + (end - a)
of_before_end a end day p q = omega arith

-- the days of a lease are the days that it covers
day_of_lease : (lease : LeaseTerms) (day : ℕ) → Among (days_of lease) day → (is_day day ≡ true) × Covers lease day
day_of_lease lease day h =
    let kept = in_filter is_day (range_with_len lease.start (end_of lease - lease.start)) day h in
    let within = in_range lease.start (end_of lease - lease.start) day kept.0 in
    (kept.1, (within.0, before_end lease.start (end_of lease) day within.0 within.1))

of_day_of_lease : (lease : LeaseTerms) (day : ℕ) → is_day day ≡ true → Covers lease day → Among (days_of lease) day
of_day_of_lease lease day is h =
    of_filter is_day (range_with_len lease.start (end_of lease - lease.start)) day is
    (of_range lease.start (end_of lease - lease.start) day h.0 (of_before_end lease.start (end_of lease) day h.0 h.1))

-- leases of one property, and a place of the calendar that both cover
record Shares (lease other : LeaseTerms) : Type 0 where
  property : lease.property ≡ other.property
  day : ℕ
  is : is_day day ≡ true
  by_lease : Covers lease day
  by_other : Covers other day

shared : (lease other : LeaseTerms) → overlap lease other ≡ true → Shares lease other
shared lease other h =
    let parts = and_parts (pointwise nat_eq lease.property other.property) (list_any (covers other) (days_of lease)) h in
    let some = some_passes (covers other) (days_of lease) parts.1 in
    let day = day_of_lease lease some.0 some.1 in
    record {
      property = (texts lease.property other.property).0 parts.0;
      day = some.0;
      is = day.0;
      by_lease = day.1;
      by_other = covered other some.0 some.2;
    }

of_shared : (lease other : LeaseTerms) → Shares lease other → overlap lease other ≡ true
of_shared lease other s =
    and_from (pointwise nat_eq lease.property other.property) (list_any (covers other) (days_of lease))
    ((texts lease.property other.property).1 s.property)
    (of_passes (covers other) (days_of lease) s.day (of_day_of_lease lease s.day s.is s.by_lease) (of_covered other s.day s.by_other))

turned : (lease other : LeaseTerms) → Shares lease other → Shares other lease
turned lease other s = record { property = sym s.property; day = s.day; is = s.is; by_lease = s.by_other; by_other = s.by_lease }

-- no more months, and it ends no later
ends_no_later : (start m n : ℕ) → m ≤ n → plus_months start m ≤ plus_months start n
ends_no_later start m n few = elim (cases_lt m n) [
  | inl less ↦ let earlier = more_months_later start m n less in omega (arith, earlier)
  | inr more ↦ let same : m ≡ n = omega (arith, few, more) in subst (λ k. plus_months start m ≤ plus_months start k) same (omega arith)
]

-- what runs for fewer months overlaps no more
pub fewer_months_are_free : (terms other : LeaseTerms) (m n : ℕ) → m ≤ n → overlap (record terms { months = n }) other ≡ false
    → overlap (record terms { months = m }) other ≡ false
fewer_months_are_free terms other m n few free = false_from_ne_true (overlap (record terms { months = m }) other) (λ yes.
    let s = shared (record terms { months = m }) other yes in
    let later = ends_no_later terms.start m n few in
    let until = s.by_lease.1 in
    let still = of_shared (record terms { months = n }) other (record {
      property = s.property;
      day = s.day;
      is = s.is;
      by_lease = (s.by_lease.0, omega (arith, until, later));
      by_other = s.by_other;
    }) in
    cc)

pub overlap_goes_both_ways : OverlapGoesBothWays
overlap_goes_both_ways lease other =
    same_from_decides {P = Shares lease other} (overlap lease other) (overlap other lease)
    (shared lease other, of_shared lease other)
    (λ h. turned other lease (shared other lease h), λ s. of_shared other lease (turned lease other s))

-- a place between two days is one of the calendar where its month has it
between : (start end day : ℕ) → IsDay start → IsDay end → start ≤ day → day < end → is_day day ≡ true → IsDay day
between start end day s e from until is = ((omega (arith, s.0.0), omega (arith, e.0.1)), leb-true (number_in_month day) (days_in (month_of_day day)) is)

of_is_day : (day : ℕ) → IsDay day → is_day day ≡ true
of_is_day day h = le-leb (number_in_month day) (days_in (month_of_day day)) h.1

pub overlap_is_common_day : OverlapIsCommonDay
overlap_is_common_day lease other s e = (
  λ h. let c = shared lease other h in
      (c.property, (c.day, between lease.start (end_of lease) c.day s e c.by_lease.0 c.by_lease.1 c.is, c.by_lease, c.by_other)),
  λ h. of_shared lease other (record { property = h.0; day = h.1.0; is = of_is_day h.1.0 h.1.1; by_lease = h.1.2; by_other = h.1.3 }),
)

-- of two leases, the later start is covered by both
by_later_start : (lease other : LeaseTerms) → IsDay lease.start → IsDay other.start → lease.start < end_of lease → other.start < end_of other
    → lease.property ≡ other.property → lease.start < end_of other → other.start < end_of lease → Shares lease other
by_later_start lease other s t p q same a b = elim (cases_lt lease.start other.start) [
  | inl lt ↦ record { property = same; day = other.start; is = of_is_day other.start t; by_lease = (omega (arith, lt), b); by_other = (omega arith, q) }
  | inr ge ↦ record { property = same; day = lease.start; is = of_is_day lease.start s; by_lease = (omega arith, p); by_other = (ge, a) }
]

reaches : (a day b : ℕ) → a ≤ day → day < b → a < b
reaches a day b p q = omega arith

pub overlap_is_by_ends : OverlapIsByEnds
overlap_is_by_ends lease other s t p q = (
  λ h. let c = shared lease other h in
      (c.property, reaches lease.start c.day (end_of other) c.by_lease.0 c.by_other.1, reaches other.start c.day (end_of lease) c.by_other.0 c.by_lease.1),
  λ h. of_shared lease other (by_later_start lease other s t p q h.0 h.1 h.2),
)

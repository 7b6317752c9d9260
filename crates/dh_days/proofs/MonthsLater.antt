-- What the calendar library answers where months are added.
use Rattle.std.proofs.Common.{◌≡◌, ◌∙◌, ℕ, ◌+◌, ◌≤◌, min, ℤ, pos, ◌+ℤ◌, ◌≤ℤ◌, arith, sym, ◌↔◌}
use Rattle.jiff_core.specs.declared.civil.date.Date.{Date}
use Rattle.jiff_core.specs.declared.span.Span.{Span}
use Rattle.jiff_core.specs.declared.unit.Unit.TheVariants.{Month, Hour, Minute, Second, Millisecond, Microsecond, Nanosecond}
use Rattle.jiff_core.specs.Calendar.{days_in_month}
use Rattle.jiff_core.specs.Date.{epoch_day}
use Rattle.jiff_core.specs.Span.{IsOnly, clock_days, span_days, span_months}
use Rattle.jiff_core.proofs.SignedLemmas.{signed_arith}
use Rattle.jiff_core.proofs.DateLemmas.{epoch_day_injective, epoch_day_range}
use Rattle.jiff_span.specs.Add.{date_add, CanAddToDate}
use Rattle.jiff_span.specs.Months.{add_months, month_number, shifted_year, shifted_month, shifted_day, IsShiftable}
use Rattle.jiff_span.proofs.DifferenceLemmas.{signed_zero}
use Rattle.jiff_span.proofs.MonthLemmas.{shifted_month_in, shifted_number, shifted_civil}
use Rattle.dh_days.specs.Days.{IsDay, days_in, month_of_day, number_in_month, plus_months}
use Rattle.dh_days.specs.Dates.{IsDateOf}

-- a span of months and nothing else
module _ (a : Date) (n : ℤ) (s : Span) (h : IsOnly Month n s) where
  months_are : span_months s ≡ n
  months_are = omega (arith, signed_arith, h.months)

  no_clock : clock_days s ≡ pos 0
  no_clock = signed_zero s.negative _ (omega (
    arith,
    h.others Hour (omega arith),
    h.others Minute (omega arith),
    h.others Second (omega arith),
    h.others Millisecond (omega arith),
    h.others Microsecond (omega arith),
    h.others Nanosecond (omega arith),
  ))

  add_only : date_add a s ≡ add_months a n
  add_only =
      let days : span_days s ≡ pos 0 = omega (arith, signed_arith, h.days) in
      rw (months_are, days, no_clock) (omega (arith, signed_arith))

-- the date that a shift reaches
abbrev shifted : (a : Date) (n : ℤ) → IsShiftable a n → Date
shifted a n h = record {
  year = shifted_year a n;
  month = shifted_month a n;
  day = shifted_day a n;
  year_in = (shifted_civil a n h).0;
  month_in = (shifted_civil a n h).1;
  day_in = (shifted_civil a n h).2;
}

-- the date after a span of months is in the month so many later, on the same day or on the last
record IsLater (a b : Date) (n : ℤ) : Type 0 where
  number : month_number b ≡ month_number a +ℤ n
  day : b.day ≡ min a.day (days_in_month b.year b.month)

date_later : (a b : Date) (n : ℤ) (s : Span) → IsOnly Month n s → CanAddToDate a s → epoch_day b ≡ date_add a s → IsLater a b n
date_later a b n s h can e =
    let shiftable : IsShiftable a n = rw (months_are a n s h) at can.0 in
    let same = epoch_day_injective b (shifted a n shiftable) (e ∙ add_only a n s h) in
    record {
      number = rw (same.0, same.1) (sym (shifted_number a n));
      day = rw (same.0, same.1) same.2;
    }

-- the library's dates in the words of days
month_number_is : (day : ℕ) (a : Date) → IsDateOf day a → month_number a ≡ pos (month_of_day day)
month_number_is day a h = omega (arith, signed_arith, h.0, h.1)

later_month : (d e : ℕ) (a b : Date) (n : ℕ) → IsDateOf d a → IsDateOf e b → IsLater a b (pos n) → month_of_day e ≡ month_of_day d + n
later_month d e a b n p q h = omega (arith, signed_arith, h.number, month_number_is d a p, month_number_is e b q)

later_number : (d e : ℕ) (a b : Date) (n : ℕ) → IsDateOf d a → IsDateOf e b → IsLater a b (pos n) → number_in_month e
    ≡ min (number_in_month d) (days_in (month_of_day e))
later_number d e a b n p q h =
    let day = h.day in
    sym q.2 ∙ (rw (p.2, q.0, q.1) at day)

place_is : (d e n : ℕ) → month_of_day e ≡ month_of_day d + n → number_in_month e ≡ min (number_in_month d) (days_in (month_of_day e)) → e ≡ plus_months d n
place_is d e n m k =
    let last : number_in_month e ≡ min (number_in_month d) (days_in (month_of_day d + n)) = rw m at k in
    omega (arith, m, last)

pub later_day : (d e n : ℕ) (a b : Date) (s : Span) → IsDateOf d a → IsDateOf e b → IsOnly Month (pos n) s → CanAddToDate a s → epoch_day b ≡ date_add a s
    → e ≡ plus_months d n
later_day d e n a b s p q only can same =
    let h = date_later a b (pos n) s only can same in
    place_is d e n (later_month d e a b n p q h) (later_number d e a b n p q h)

-- the library has that date exactly where its month is not past December 9999
pub can_add : (d n : ℕ) (a : Date) (s : Span) → IsDateOf d a → IsOnly Month (pos n) s → CanAddToDate a s ↔ (month_of_day d + n ≤ 119999)
can_add d n a s p h = (
  (λ can.
      let shiftable : IsShiftable a (pos n) = rw (months_are a (pos n) s h) at can.0 in
      omega (arith, signed_arith, shifted_number a (pos n), shifted_month_in a (pos n), month_number_is d a p)),
  (λ within.
      let shiftable : IsShiftable a (pos n) = omega (arith, signed_arith, shifted_number a (pos n), shifted_month_in a (pos n), month_number_is d a p) in
      (rw (months_are a (pos n) s h) shiftable, rw (add_only a (pos n) s h) (epoch_day_range (shifted a (pos n) shiftable)))),
)

-- no date before 2000 is reached
pub later_year : (d n : ℕ) (a b : Date) (s : Span) → IsDay d → IsDateOf d a → IsOnly Month (pos n) s → CanAddToDate a s → epoch_day b ≡ date_add a s
    → pos 2000 ≤ℤ b.year
later_year d n a b s known p only can same =
    let h = date_later a b (pos n) s only can same in
    omega (arith, signed_arith, h.number, month_number_is d a p, known.0, b.month_in)

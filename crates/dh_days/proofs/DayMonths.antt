-- Days and their months.
use Rattle.std.proofs.Common.{◌≡◌, ◌∙◌, sym, ap, refl, subst, ℕ, ◌+◌, ◌-◌, ◌*◌, ◌<◌, ◌≤◌, min, Bool, true, false, if◌then◌else◌, inl, inr, arith}
use Rattle.std.proofs.lemmas.Bool.{cases_lt}
use Rattle.dh_days.specs.Days.{IsDay, days_in, day_at, month_of_day, number_in_month, plus_months}
use Rattle.dh_days.specs.Laws.{LiesByMonth}

one_of_four : (a b c : Bool) → (28 ≤ (if a then (if b then 29 else 28) else (if c then 30 else 31)))
    × ((if a then (if b then 29 else 28) else (if c then 30 else 31)) ≤ 31)
one_of_four true true c = (omega arith, omega arith)
one_of_four true false c = (omega arith, omega arith)
one_of_four false b true = (omega arith, omega arith)
one_of_four false b false = (omega arith, omega arith)

-- each month has 28 to 31 days
pub days_in_bounds : (month : ℕ) → (28 ≤ days_in month) × (days_in month ≤ 31)
days_in_bounds month = one_of_four _ _ _

-- the place of a day by its month and its number
record IsPlace (place month number : ℕ) : Type 0 where
  first : 1 ≤ number
  last : number ≤ 31
  place_is : place ≡ 31 * month + number - 1

place_month : (place month number : ℕ) → IsPlace place month number → month_of_day place ≡ month
place_month place month number h = omega (arith, h.first, h.last, h.place_is)

place_number : (place month number : ℕ) → IsPlace place month number → number_in_month place ≡ number
place_number place month number h = omega (arith, h.first, h.last, h.place_is)

abbrev number_later : ℕ → ℕ → ℕ
number_later d n = min (number_in_month d) (days_in (month_of_day d + n))

small : (a b : ℕ) → 1 ≤ a → 28 ≤ b → b ≤ 31 → (1 ≤ min a b) × (min a b ≤ 31)
small a b p q r = (omega arith, omega arith)

later_place : (d n : ℕ) → IsPlace (plus_months d n) (month_of_day d + n) (number_later d n)
later_place d n =
    let bounds = days_in_bounds (month_of_day d + n) in
    let s = small (number_in_month d) (days_in (month_of_day d + n)) (omega arith) bounds.0 bounds.1 in
    record { first = s.0; last = s.1; place_is = refl }

pub month_of_months_later : (d n : ℕ) → month_of_day (plus_months d n) ≡ month_of_day d + n
month_of_months_later d n = place_month _ _ _ (later_place d n)

pub number_of_months_later : (d n : ℕ) → number_in_month (plus_months d n) ≡ min (number_in_month d) (days_in (month_of_day d + n))
number_of_months_later d n = place_number _ _ _ (later_place d n)

least : (a b : ℕ) → min a b ≤ b
least a b = omega arith

pub months_later_is_day : (d n : ℕ) → IsDay d → month_of_day d + n ≤ 119999 → IsDay (plus_months d n)
months_later_is_day d n h within =
    (rw month_of_months_later ((omega (arith, h.0), omega arith)), rw (month_of_months_later, number_of_months_later) (least _ _))

-- what of a place follows from its month
earlier : (x y m n k l : ℕ) → IsPlace x m k → IsPlace y n l → m < n → x < y
earlier x y m n k l p q h = omega (arith, p.last, p.place_is, q.first, q.place_is)

pub more_months_later : (d m n : ℕ) → m < n → plus_months d m < plus_months d n
more_months_later d m n h = earlier _ _ _ _ _ _ (later_place d m) (later_place d n) (omega arith)

own_place : (d : ℕ) → IsPlace d (month_of_day d) (number_in_month d)
own_place d = record { first = omega arith; last = omega arith; place_is = omega arith }

same_place : (d last : ℕ) → number_in_month d ≤ last → day_at (month_of_day d) (min (number_in_month d) last) ≡ d
same_place d last h = omega arith

pub zero_months_later_is_the_day : (d : ℕ) → IsDay d → plus_months d 0 ≡ d
zero_months_later_is_the_day d h =
    let same : month_of_day d + 0 ≡ month_of_day d = omega arith in
    ap (λ m. day_at m (min (number_in_month d) (days_in m))) same ∙ same_place d (days_in (month_of_day d)) h.1

in_one_month : (m k l last : ℕ) → k ≤ l → day_at m (min k last) ≤ day_at m (min l last)
in_one_month m k l last h = omega arith

strictly : (x y : ℕ) → x < y → x ≤ y
strictly x y h = omega arith

pub months_later_in_order : (d e n : ℕ) → d ≤ e → plus_months d n ≤ plus_months e n
months_later_in_order d e n h = elim (cases_lt (month_of_day d) (month_of_day e)) [
  | inl lt ↦ strictly _ _ (earlier _ _ _ _ _ _ (later_place d n) (later_place e n) (omega arith))
  | inr ge ↦
      let same : month_of_day d ≡ month_of_day e = omega arith in
      let number : number_in_month d ≤ number_in_month e = omega arith in
      let moved = ap (λ m. day_at (m + n) (min (number_in_month d) (days_in (m + n)))) same in
      subst (λ x. x ≤ plus_months e n) (sym moved) (in_one_month (month_of_day e + n) _ _ _ number)
]

from_place : (x y m n k l : ℕ) → IsPlace x m k → IsPlace y n l → x ≤ y → m ≤ n
from_place x y m n k l p q h = omega (arith, p.first, p.place_is, q.last, q.place_is)

pub lies_by_month : (start n day : ℕ) → LiesByMonth start n day
lies_by_month start n day =
    let later = later_place start n in
    let own = own_place day in
    record {
      from = λ h. from_place _ _ _ _ _ _ later own h;
      until = λ h. from_place _ _ _ _ _ _ own later (omega (arith, h));
      before = λ h. earlier _ _ _ _ _ _ own later h;
      after = λ h. earlier _ _ _ _ _ _ later own h;
    }

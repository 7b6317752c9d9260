-- Reading what a day prints as.
use Rattle.std.proofs.Common.{◌≡◌, ◌∙◌, sym, ap, refl, ℕ, ◌+◌, ◌/◌, ◌%◌, ◌<◌, ◌≤◌, true, Some, List, ◌∷◌, ◌++◌, take, drop, arith}
use Rattle.dh_values.specs.Numbers.{number}
use Rattle.dh_days.specs.Months.{month_of, month_text, two_digits}
use Rattle.dh_days.specs.Days.{IsDay, IsEntryDay, days_in, day_at, day_of, day_text, day_until, has_day_form, month_of_day, number_in_month}
use Rattle.dh_days.proofs.MonthTexts.{is_digit, at_least, seven, seven_text, printed_read}

seven_and_two_form : (a b c d t o k : ℕ) → k < 100 → has_day_form (seven a b c d t o ++ 45 ∷ two_digits k) ≡ true
seven_and_two_form a b c d t o k h = rw (is_digit (k / 10) (omega arith), is_digit (k % 10) (omega arith)) refl

two_digits_number : (k : ℕ) → number (two_digits k) ≡ k
two_digits_number k = omega arith

-- the text of a day, by its parts
record Shown (d : ℕ) : Type 0 where
  form : has_day_form (day_text d) ≡ true
  month : take 7 (day_text d) ≡ month_text (month_of_day d)
  number_is : number (drop 8 (day_text d)) ≡ number_in_month d

shown : (d : ℕ) → IsDay d → Shown d
shown d h =
    let m = month_of_day d in
    let k = number_in_month d in
    let y = m / 12 in
    let text = seven_text m h.0 in
    record {
      form = ap (λ t. has_day_form (t ++ 45 ∷ two_digits k)) text ∙ seven_and_two_form (y / 10 / 10 / 10) (y / 10 / 10 % 10) (y / 10 % 10) (y % 10)
          ((m % 12 + 1) / 10) ((m % 12 + 1) % 10) k (omega arith);
      month = ap (λ t. take 7 (t ++ 45 ∷ two_digits k)) text ∙ sym text;
      number_is = ap (λ t. number (drop 8 (t ++ 45 ∷ two_digits k))) text ∙ two_digits_number k;
    }

read_parts : (last : ℕ) (text : List ℕ) (m k : ℕ) → has_day_form text ≡ true → month_of (take 7 text) ≡ Some m → number (drop 8 text) ≡ k
    → m ≤ last → 1 ≤ k → k ≤ days_in m → day_until last text ≡ Some (day_at m k)
read_parts last text m k form month number_is a b c =
    rw (form, month, number_is, at_least m last a, at_least 1 k b, at_least k (days_in m) c) refl

pub printed_until_read : (last d : ℕ) → last ≤ 26411 → IsDay d → month_of_day d ≤ last → day_until last (day_text d) ≡ Some d
printed_until_read last d few h until =
    let s = shown d h in
    let same : day_at (month_of_day d) (number_in_month d) ≡ d = omega arith in
    read_parts last (day_text d) (month_of_day d) (number_in_month d) s.form
    (ap month_of s.month ∙ printed_read (month_of_day d) (h.0.0, omega (arith, few, until))) s.number_is until (omega arith) h.1
    ∙ ap (λ k. Some k) same

pub printed_day_read : (d : ℕ) → IsEntryDay d → day_of (day_text d) ≡ Some d
printed_day_read d h = printed_until_read 26399 d (omega arith) h.0 h.1

-- Reading what a month prints as.
use Rattle.std.proofs.Common.{◌≡◌, ◌∙◌, ap, refl, ℕ, ◌+◌, ◌-◌, ◌*◌, ◌/◌, ◌%◌, ◌<◌, ◌≤◌, true, nat_le, Some, List, [], ◌∷◌, take, drop, arith}
use Rattle.std.specs.Char.{is_ascii_digit}
use Rattle.std.specs.Fmt.{decimal}
use Rattle.std.proofs.lemmas.Bool.Decides.{nat_tests}
use Rattle.std.proofs.lemmas.Fmt.{decimal_digit, decimal_step}
use Rattle.dh_values.specs.Numbers.{number}
use Rattle.dh_days.specs.Months.{IsMonth, IsEntryMonth, has_month_form, month_of, month_text}

pub four_digits : (y : ℕ) → 1000 ≤ y → y < 10000
    → decimal y ≡ (48 + y / 10 / 10 / 10) ∷ (48 + y / 10 / 10 % 10) ∷ (48 + y / 10 % 10) ∷ (48 + y % 10) ∷ []
four_digits y low high =
    rw (
      decimal_step y (omega arith) (omega arith),
      decimal_step (y / 10) (omega arith) (omega arith),
      decimal_step (y / 10 / 10) (omega arith) (omega arith),
      decimal_digit (y / 10 / 10 / 10) (omega arith),
    ) refl

pub is_digit : (d : ℕ) → d < 10 → is_ascii_digit (48 + d) ≡ true
is_digit d h = grind (arith, nat_tests)

pub at_least : (m n : ℕ) → m ≤ n → nat_le m n ≡ true
at_least m n h = grind (arith, nat_tests)

-- the seven bytes of a month
abbrev pub seven : (a b c d t o : ℕ) → List ℕ
seven a b c d t o = (48 + a) ∷ (48 + b) ∷ (48 + c) ∷ (48 + d) ∷ 45 ∷ (48 + t) ∷ (48 + o) ∷ []

seven_form : (a b c d t o : ℕ) → a < 10 → b < 10 → c < 10 → d < 10 → t < 10 → o < 10 → has_month_form (seven a b c d t o) ≡ true
seven_form a b c d t o p q r s u v = rw (is_digit a p, is_digit b q, is_digit c r, is_digit d s, is_digit t u, is_digit o v) refl

seven_year : (a b c d t o : ℕ) → number (take 4 (seven a b c d t o)) ≡ 1000 * a + 100 * b + 10 * c + d
seven_year a b c d t o = omega arith

seven_month : (a b c d t o : ℕ) → number (drop 5 (seven a b c d t o)) ≡ 10 * t + o
seven_month a b c d t o = omega arith

-- the text of a month, by its parts
record Shown (n : ℕ) : Type 0 where
  form : has_month_form (month_text n) ≡ true
  year : number (take 4 (month_text n)) ≡ n / 12
  month : number (drop 5 (month_text n)) ≡ n % 12 + 1

pub seven_text : (n : ℕ) → IsMonth n → month_text n ≡ seven (n / 12 / 10 / 10 / 10) (n / 12 / 10 / 10 % 10) (n / 12 / 10 % 10) (n / 12 % 10)
    ((n % 12 + 1) / 10) ((n % 12 + 1) % 10)
seven_text n h = rw (four_digits (n / 12) (omega arith) (omega arith)) refl

year_again : (y : ℕ) → 1000 * (y / 10 / 10 / 10) + 100 * (y / 10 / 10 % 10) + 10 * (y / 10 % 10) + y % 10 ≡ y
year_again y = omega arith

month_again : (m : ℕ) → 10 * (m / 10) + m % 10 ≡ m
month_again m = omega arith

digits_below : (y : ℕ) → y < 10000 → (y / 10 / 10 / 10 < 10) × (y / 10 / 10 % 10 < 10) × (y / 10 % 10 < 10) × (y % 10 < 10)
digits_below y h = (omega arith, omega arith, omega arith, omega arith)

shown : (n : ℕ) → IsMonth n → Shown n
shown n h =
    let text = seven_text n h in
    let d = digits_below (n / 12) (omega arith) in
    let tens : (n % 12 + 1) / 10 < 10 = omega arith in
    let ones : (n % 12 + 1) % 10 < 10 = omega arith in
    record {
      form = ap has_month_form text ∙ seven_form _ _ _ _ _ _ d.0 d.1 d.2 d.3 tens ones;
      year = ap (λ t. number (take 4 t)) text ∙ seven_year _ _ _ _ ((n % 12 + 1) / 10) ((n % 12 + 1) % 10) ∙ year_again (n / 12);
      month = ap (λ t. number (drop 5 t)) text ∙ seven_month (n / 12 / 10 / 10 / 10) (n / 12 / 10 / 10 % 10) (n / 12 / 10 % 10) (n / 12 % 10) _ _
          ∙ month_again (n % 12 + 1);
    }

read_parts : (text : List ℕ) (y m : ℕ) → has_month_form text ≡ true → number (take 4 text) ≡ y → number (drop 5 text) ≡ m
    → 2000 ≤ y → y ≤ 2200 → 1 ≤ m → m ≤ 12 → month_of text ≡ Some (12 * y + m - 1)
read_parts text y m form year month a b c d = rw (form, year, month, at_least 2000 y a, at_least y 2200 b, at_least 1 m c, at_least m 12 d) refl

pub printed_read : (n : ℕ) → IsEntryMonth n → month_of (month_text n) ≡ Some n
printed_read n h =
    let s = shown n (h.0, omega arith) in
    let same : 12 * (n / 12) + (n % 12 + 1) - 1 ≡ n = omega arith in
    read_parts (month_text n) (n / 12) (n % 12 + 1) s.form s.year s.month (omega arith) (omega arith) (omega arith) (omega arith) ∙ ap (λ k. Some k) same

-- Reading what a number prints as.
use Rattle.std.proofs.Common.{◌≡◌, ◌∙◌, sym, ap, refl, ℕ, zero, suc, ◌^◌, ◌<◌, ◌≤◌, Bool, true, false, not}
use Rattle.std.proofs.Common.{◌&&◌, ◌||◌, nat_le, nat_eq, if◌then◌else◌, Option, Some, None, Result, Ok, Err, subst}
use Rattle.std.proofs.Common.{List, length, slice_index, arith, rules}
use Rattle.std.specs.List.{list_all}
use Rattle.std.specs.Char.{is_ascii_digit}
use Rattle.std.specs.Fmt.{decimal}
use Rattle.std.specs.Str.Parse.{ParsesUnsigned}
use Rattle.std.proofs.lemmas.Bool.Decides.{nat_tests}
use Rattle.std.proofs.lemmas.Fmt.{decimal_digit, decimal_is_IsNumeral_wide, decimal_nonempty, first_decimal, decimal-digits_value}
use Rattle.std.proofs.lemmas.Str.Parse.{IsNumeralModel, numerals_by_fold, parse_digits}
use Rattle.dh_values.proofs.Ascii.{and_left, and_right}
use Rattle.dh_values.specs.Laws.{HaveOneText}
use Rattle.dh_values.specs.Numbers.{number_after, number, is_numeral, numeral_of, within}

pub own : IsNumeralModel (λ ds. list_all is_ascii_digit ds ≡ true) (number_after 0)
own = numerals_by_fold _ (search rules) number_after (search rules)

pub digits_of_decimal : (n : ℕ) → n < 10 ^ 64 → list_all is_ascii_digit (decimal n) ≡ true
digits_of_decimal n h = own.from (decimal n) (decimal_is_IsNumeral_wide n h).0.1

pub number_of_decimal : (n : ℕ) → n < 10 ^ 64 → number (decimal n) ≡ n
number_of_decimal n h = own.same (decimal n) (decimal_is_IsNumeral_wide n h).0.1 ∙ (decimal_is_IsNumeral_wide n h).1

pub decimals_apart : (m n : ℕ) → m < 10 ^ 64 → n < 10 ^ 64 → decimal m ≡ decimal n → m ≡ n
decimals_apart m n p q e = sym (number_of_decimal m p) ∙ ap number e ∙ number_of_decimal n q

no_zero : (l d : ℕ) → 48 < d → (nat_eq l 1 || not (nat_eq d 48)) ≡ true
no_zero l d h = grind (arith, nat_tests)

some_digit : (l : ℕ) → 0 < l → nat_le 1 l ≡ true
some_digit l h = grind (arith, nat_tests)

positive_printed : (n : ℕ) → 1 ≤ n → n < 10 ^ 8 → numeral_of (decimal n) ≡ Some n
positive_printed n low high =
    let small : n < 2 ^ 64 = omega arith in
    let wide : n < 10 ^ 64 = omega arith in
    rw (
      some_digit (length (decimal n)) (decimal_nonempty n small),
      no_zero (length (decimal n)) (slice_index (decimal n) 0) (first_decimal n (omega arith) small),
      digits_of_decimal n wide,
    ) (ap (λ m. Some m) (number_of_decimal n wide))

pub numeral_of_decimal : (n : ℕ) → n < 10 ^ 8 → numeral_of (decimal n) ≡ Some n
numeral_of_decimal zero high = ap numeral_of (decimal_digit 0 (omega arith))
numeral_of_decimal (suc n) high = positive_printed (suc n) (omega arith) high

pub within_kept : (low high n : ℕ) → low ≤ n → n ≤ high → within low high (Some n) ≡ Some n
within_kept low high n p q = grind (arith, nat_tests)

-- a number that is printed and read is itself
read_back : (low high n : ℕ) → high < 10 ^ 8 → low ≤ n → n ≤ high → within low high (numeral_of (decimal n)) ≡ Some n
read_back low high n top p q = ap (within low high) (numeral_of_decimal n (omega arith)) ∙ within_kept low high n p q

-- what a test lets through
pub chosen : {A : Type 0} (b : Bool) (x y : A) → (if b then Some x else None) ≡ Some y → (b ≡ true) × (x ≡ y)
chosen true x y h = (refl, cc)
chosen false x y h = absurd (cc)

pub at_most : (low high n : ℕ) → (nat_le low n && nat_le n high) ≡ true → (low ≤ n) × (n ≤ high)
at_most low high n h = (grind (arith, nat_tests), grind (arith, nat_tests))

pub within_is : (low high : ℕ) (m : Option ℕ) (n : ℕ) → within low high m ≡ Some n → (m ≡ Some n) × (low ≤ n) × (n ≤ high)
within_is low high None n h = absurd (cc)
within_is low high (Some m) n h =
    let c = chosen (nat_le low m && nat_le m high) m n h in
    let range = at_most low high n (rw (← c.1) c.0) in
    (ap (λ k. Some k) c.1, range.0, range.1)

alone : (l d : ℕ) → (nat_eq l 1 || not (nat_eq d 48)) ≡ true → d ≡ 48 → l ≡ 1
alone l d h e = grind (arith, nat_tests)

nonempty : (l : ℕ) → nat_le 1 l ≡ true → 0 < l
nonempty l h = grind (arith, nat_tests)

-- digits without a leading zero are what their number prints as
numeral_printed : (n : ℕ) (text : List ℕ) → n < 2 ^ 64 → numeral_of text ≡ Some n → decimal n ≡ text
numeral_printed n text small h =
    let c = chosen (is_numeral text) (number text) n h in
    let begun = nat_eq (length text) 1 || not (nat_eq (slice_index text 0) 48) in
    let digits : list_all is_ascii_digit text ≡ true = and_right (nat_le 1 (length text) && begun) _ c.0 in
    let front : (nat_le 1 (length text) && begun) ≡ true = and_left _ (list_all is_ascii_digit text) c.0 in
    let long = nonempty (length text) (and_left _ begun front) in
    let leading = and_right (nat_le 1 (length text)) begun front in
    rw (← c.1) (decimal-digits_value own text digits long (alone (length text) (slice_index text 0) leading) (omega (arith, c.1)))

-- a text that is read is what its number prints as
printed_back : (low high n : ℕ) (text : List ℕ) → high < 10 ^ 8 → within low high (numeral_of text) ≡ Some n → decimal n ≡ text
printed_back low high n text top h =
    let w = within_is low high (numeral_of text) n h in
    numeral_printed n text (omega (arith, w.2)) w.0

-- numbers of 8 digits at most have one text
pub numbers : (IsValue : ℕ → Type 0) (low high : ℕ) → high < 10 ^ 8 → ((n : ℕ) → IsValue n → (low ≤ n) × (n ≤ high))
    → HaveOneText IsValue decimal (λ text. within low high (numeral_of text))
numbers IsValue low high top range = record {
  read_back = λ n h. read_back low high n top (range n h).0 (range n h).1;
  printed_back = λ n text h. printed_back low high n text top h;
  apart = λ m n p q e. decimals_apart m n (omega (arith, (range m p).1)) (omega (arith, (range n q).1)) e;
}

outside : (low high n : ℕ) → high < n → (nat_le low n && nat_le n high) ≡ false
outside low high n h = grind (arith, nat_tests)

no_less : (l n m : ℕ) → 0 < l → ¬ ((0 < l) × (n < m)) → m ≤ n
no_less l n m some h = let large : ¬ (n < m) = λ p. h (some, p) in omega (arith, large)

module _ {E : Type 0} (text : List ℕ) (numeral : is_numeral text ≡ true) (r : Result ℕ E) (parses : ParsesUnsigned 32 10 text r) where
  digits : list_all is_ascii_digit text ≡ true
  digits = and_right (nat_le 1 (length text) && (nat_eq (length text) 1 || not (nat_eq (slice_index text 0) 48))) _ numeral

  -- a numeral that has more than 32 bits lies above each bound of 32 bits
  pub unparsed : (low high : ℕ) (e : E) → r ≡ Err e → high < 2 ^ 32 → within low high (numeral_of text) ≡ None
  unparsed low high e is top =
      let begun = nat_eq (length text) 1 || not (nat_eq (slice_index text 0) 48) in
      let front : (nat_le 1 (length text) && begun) ≡ true = and_left _ (list_all is_ascii_digit text) numeral in
      let some = nonempty (length text) (and_left _ begun front) in
      let long = parse_digits own {E = E} 32 text (Err e) (subst (λ q. ParsesUnsigned 32 10 text q) is parses) digits in
      let large : 2 ^ 32 ≤ number text = no_less (length text) (number text) (2 ^ 32) some long in
      rw (numeral, outside low high (number text) (omega (arith, large, top))) refl

  pub parsed : (n : ℕ) → r ≡ Ok n → numeral_of text ≡ Some n
  parsed n is =
      let whole = parse_digits own {E = E} 32 text (Ok n) (subst (λ q. ParsesUnsigned 32 10 text q) is parses) digits in
      rw (numeral, whole.1) refl

-- What money prints as, and reading it.
use Rattle.std.proofs.Common.{◌≡◌, ◌∙◌, sym, ap, refl, ℕ, suc, ◌+◌, ◌-◌, ◌*◌, ◌/◌, ◌%◌, ◌^◌, ◌<◌, ◌≤◌, Bool, true, false, ◌&&◌, nat_le, nat_eq}
use Rattle.std.proofs.Common.{if◌then◌else◌, Option, Some, None, List, [], ◌∷◌, ◌++◌, length, take, drop, slice_index, ℤ, pos, negsuc, arith, length-append}
use Rattle.std.proofs.Common.{length-drop}
use Rattle.std.specs.Char.{is_ascii_digit}
use Rattle.std.specs.Fmt.{decimal}
use Rattle.std.specs.List.{list_all}
use Rattle.std.specs.Prelude.{FitsSigned}
use Rattle.std.proofs.Math.Seq.{take-append_seam, drop-append-add, get_or-append_seam}
use Rattle.std.proofs.lemmas.Bool.Decides.{nat_tests}
use Rattle.std.proofs.lemmas.Fmt.{decimal_digit, decimal_nonempty, length-decimal-le, decimal_is_IsNumeral_wide}
use Rattle.std.proofs.lemmas.Int.{ints}
use Rattle.std.proofs.lemmas.List.{get_or_append_left}
use Rattle.std.proofs.lemmas.List.Folds.{list_all-append}
use Rattle.std.proofs.lemmas.Str.Parse.{digit_at, digits_value_short}
use lib.Signed.{lt_z}
use lib.IntN.{nat_abs}
use mir.Syntax.{w128}
use Rattle.dh_values.proofs.Ascii.{and_left, and_right}
use Rattle.dh_values.proofs.NumberTexts.{own, digits_of_decimal, number_of_decimal, within_kept}
use Rattle.dh_values.specs.Money.{is_pounds, has_pence, pence_of, pence_text, money_text}
use Rattle.dh_values.specs.Numbers.{number, within}

-- ---- printing

pub pence_shown : (p : ℕ) → decimal (p / 100) ++ (46 ∷ (decimal (p % 100 / 10) ++ decimal (p % 100 % 10))) ≡ pence_text p
pence_shown p = rw (decimal_digit (p % 100 / 10) (omega arith), decimal_digit (p % 100 % 10) (omega arith))

pub owed_shown : (z : ℤ) (p : ℕ) → p ≡ nat_abs z → lt_z z (pos 0) ≡ true
    → 45 ∷ (decimal (p / 100) ++ (46 ∷ (decimal (p % 100 / 10) ++ decimal (p % 100 % 10)))) ≡ money_text z
owed_shown (pos n) p e h = absurd (grind (arith, ints))
owed_shown (negsuc n) p e h = ap (λ t. 45 ∷ t) (pence_shown p) ∙ ap (λ q. 45 ∷ pence_text q) e

pub money_shown : (z : ℤ) (p : ℕ) → p ≡ nat_abs z → lt_z z (pos 0) ≡ false
    → decimal (p / 100) ++ (46 ∷ (decimal (p % 100 / 10) ++ decimal (p % 100 % 10))) ≡ money_text z
money_shown (pos n) p e h = pence_shown p ∙ ap pence_text e
money_shown (negsuc n) p e h = absurd (grind (arith, ints))

-- ---- the parts of a text

-- pounds, a point and two digits
abbrev parts : List ℕ → ℕ → ℕ → List ℕ
parts ds a b = ds ++ 46 ∷ (48 + a) ∷ (48 + b) ∷ []

parts_long : (ds : List ℕ) (a b : ℕ) → length (parts ds a b) ≡ length ds + 3
parts_long ds a b = length-append ds (46 ∷ (48 + a) ∷ (48 + b) ∷ [])

front : (ds : List ℕ) (a b : ℕ) → take (length (parts ds a b) - 3) (parts ds a b) ≡ ds
front ds a b =
    let e : length (parts ds a b) - 3 ≡ length ds = omega (arith, parts_long ds a b) in
    rw e (take-append_seam ds (46 ∷ (48 + a) ∷ (48 + b) ∷ []))

back : (ds : List ℕ) (a b : ℕ) → drop (length (parts ds a b) - 2) (parts ds a b) ≡ (48 + a) ∷ (48 + b) ∷ []
back ds a b =
    let e : length (parts ds a b) - 2 ≡ length ds + 1 = omega (arith, parts_long ds a b) in
    rw e (drop-append-add ds (46 ∷ (48 + a) ∷ (48 + b) ∷ []) 1)

point : (ds : List ℕ) (a b : ℕ) → slice_index (parts ds a b) (length (parts ds a b) - 3) ≡ 46
point ds a b =
    let e : length (parts ds a b) - 3 ≡ length ds = omega (arith, parts_long ds a b) in
    rw e (get_or-append_seam ds 46 ((48 + a) ∷ (48 + b) ∷ []) 0)

two_digits : (a b : ℕ) → number ((48 + a) ∷ (48 + b) ∷ []) ≡ 10 * a + b
two_digits a b = omega arith

-- the pence that the parts of a text spell
abbrev value : List ℕ → ℕ
value text = 100 * number (take (length text - 3) text) + number (drop (length text - 2) text)

value_is : (ds : List ℕ) (a b n : ℕ) → number ds ≡ n → value (parts ds a b) ≡ 100 * n + (10 * a + b)
value_is ds a b n h = rw (front ds a b, back ds a b, h) (omega arith)

value_of_text : (p : ℕ) → p < 2 ^ 128 → value (pence_text p) ≡ p
value_of_text p h =
    let pounds = number_of_decimal (p / 100) (omega arith) in
    value_is (decimal (p / 100)) (p % 100 / 10) (p % 100 % 10) (p / 100) pounds ∙ omega arith

-- ---- amounts that print as one

pub pence_apart : (p q : ℕ) → p < 2 ^ 128 → q < 2 ^ 128 → pence_text p ≡ pence_text q → p ≡ q
pence_apart p q g h e = sym (value_of_text p g) ∙ ap value e ∙ value_of_text q h

first_digit : (p : ℕ) → p < 2 ^ 128 → 48 ≤ slice_index (pence_text p) 0
first_digit p h =
    let ds = decimal (p / 100) in
    let numeral = (decimal_is_IsNumeral_wide (p / 100) (omega arith)).0 in
    let here : slice_index (pence_text p) 0 ≡ slice_index ds 0 = get_or_append_left ds (46 ∷ (48 + p % 100 / 10) ∷ (48 + p % 100 % 10) ∷ []) 0 0 numeral.0 in
    let digit = digit_at ds 0 numeral.1 numeral.0 in
    omega (arith, here, digit)

no_hyphen : (p : ℕ) (text : List ℕ) → p < 2 ^ 128 → pence_text p ≡ 45 ∷ text → ⊥
no_hyphen p text h e = omega (arith, first_digit p h, ap (λ t. slice_index t 0) e)

tail_is : (x : ℕ) (s t : List ℕ) → x ∷ s ≡ x ∷ t → s ≡ t
tail_is x s t e = cc

pub money_apart : (y z : ℤ) → FitsSigned w128 y → FitsSigned w128 z → money_text y ≡ money_text z → y ≡ z
money_apart (pos p) (pos q) g h e = ap pos (pence_apart p q (omega (arith, g.sfits)) (omega (arith, h.sfits)) e)
money_apart (pos p) (negsuc n) g h e = absurd (no_hyphen p (pence_text (suc n)) (omega (arith, g.sfits)) e)
money_apart (negsuc m) (pos q) g h e = absurd (no_hyphen q (pence_text (suc m)) (omega (arith, h.sfits)) (sym e))
money_apart (negsuc m) (negsuc n) g h e =
    let same : suc m ≡ suc n = pence_apart (suc m) (suc n) (omega (arith, g.sfits)) (omega (arith, h.sfits)) (tail_is 45 _ _ e) in
    ap negsuc (omega arith)

-- ---- reading what was printed

all_three : (a b c : Bool) → a ≡ true → b ≡ true → c ≡ true → (a && b && c) ≡ true
all_three a b c p q r = rw (p, q, r) refl

at_least : (m n : ℕ) → m ≤ n → nat_le m n ≡ true
at_least m n h = grind (arith, nat_tests)

is_digit : (d : ℕ) → d < 10 → is_ascii_digit (48 + d) ≡ true
is_digit d h = grind (arith, nat_tests)

and_false : (a : Bool) → (a && false) ≡ false
and_false true = refl
and_false false = refl

no_pounds : (ds : List ℕ) (a b : ℕ) → is_pounds (parts ds a b) ≡ false
no_pounds ds a b =
    let digits : list_all is_ascii_digit (parts ds a b) ≡ false = list_all-append is_ascii_digit ds (46 ∷ (48 + a) ∷ (48 + b) ∷ [])
    ∙ and_false (list_all is_ascii_digit ds) in
    rw digits (and_false (nat_le 1 (length (parts ds a b)) && nat_le (length (parts ds a b)) 6))

pounds_of_decimal : (n : ℕ) → n < 10 ^ 6 → is_pounds (decimal n) ≡ true
pounds_of_decimal n h =
    all_three _ _ _ (at_least 1 (length (decimal n)) (decimal_nonempty n (omega arith)))
    (at_least (length (decimal n)) 6 (length-decimal-le 6 n (omega arith) (omega arith) (omega arith)))
    (digits_of_decimal n (omega arith))

-- what a text of pounds is
record Pounds (ds : List ℕ) : Type 0 where
  some : 1 ≤ length ds
  few : length ds ≤ 6
  digits : list_all is_ascii_digit ds ≡ true

tested : (m n : ℕ) → nat_le m n ≡ true → m ≤ n
tested m n h = grind (arith, nat_tests)

of_pounds : (ds : List ℕ) → is_pounds ds ≡ true → Pounds ds
of_pounds ds h =
    let size = and_left (nat_le 1 (length ds) && nat_le (length ds) 6) (list_all is_ascii_digit ds) h in
    record {
      some = tested 1 (length ds) (and_left _ (nat_le (length ds) 6) size);
      few = tested (length ds) 6 (and_right (nat_le 1 (length ds)) _ size);
      digits = and_right (nat_le 1 (length ds) && nat_le (length ds) 6) (list_all is_ascii_digit ds) h;
    }

all_four : (a b c d : Bool) → a ≡ true → b ≡ true → c ≡ true → d ≡ true → (a && b && c && d) ≡ true
all_four a b c d p q r s = rw (p, q, r, s) refl

with_pence : (ds : List ℕ) (a b : ℕ) → is_pounds ds ≡ true → a < 10 → b < 10 → has_pence (parts ds a b) ≡ true
with_pence ds a b pounds p q =
    let known = of_pounds ds pounds in
    let digits : list_all is_ascii_digit ((48 + a) ∷ (48 + b) ∷ []) ≡ true = rw (is_digit a p, is_digit b q) refl in
    all_four _ _ _ _ (at_least 4 (length (parts ds a b)) (omega (arith, parts_long ds a b, known.some))) (ap (λ c. nat_eq c 46) (point ds a b))
    (ap is_pounds (front ds a b) ∙ pounds) (ap (list_all is_ascii_digit) (back ds a b) ∙ digits)

read_parts : (text : List ℕ) (n : ℕ) → is_pounds text ≡ false → has_pence text ≡ true → value text ≡ n → pence_of text ≡ Some n
read_parts text n p q e = rw (p, q) (ap (λ k. Some k) e)

pub pence_read : (p : ℕ) → p ≤ 99999999 → pence_of (pence_text p) ≡ Some p
pence_read p h =
    let ds = decimal (p / 100) in
    let a = p % 100 / 10 in
    let b = p % 100 % 10 in
    read_parts (pence_text p) p (no_pounds ds a b) (with_pence ds a b (pounds_of_decimal (p / 100) (omega arith)) (omega arith) (omega arith))
    (value_of_text p (omega arith))

-- a rent or an amount that is printed and read is itself
pub range_read : (low high p : ℕ) → high ≤ 99999999 → low ≤ p → p ≤ high → within low high (pence_of (pence_text p)) ≡ Some p
range_read low high p top l h = ap (within low high) (pence_read p (omega arith)) ∙ within_kept low high p l h

-- ---- what a text can spell

pounds_small : (ds : List ℕ) → is_pounds ds ≡ true → number ds < 10 ^ 6
pounds_small ds h = let known = of_pounds ds h in digits_value_short own ds 6 known.digits known.few

two_small : (text : List ℕ) → list_all is_ascii_digit (drop (length text - 2) text) ≡ true → number (drop (length text - 2) text) < 10 ^ 2
two_small text h = digits_value_short own (drop (length text - 2) text) 2 h (omega (arith, length-drop (length text - 2) text))

either : (b : Bool) (m n p : ℕ) (rest : Option ℕ) → (b ≡ true → m ≤ n) → (rest ≡ Some p → p ≤ n) → (if b then Some m else rest) ≡ Some p → p ≤ n
either true m n p rest first other h = let same : m ≡ p = cc in omega (arith, first refl)
either false m n p rest first other h = other h

pub pence_small : (p : ℕ) (text : List ℕ) → pence_of text ≡ Some p → p ≤ 99999999
pence_small p text =
    either (is_pounds text) (100 * number text) 99999999 p _ (λ h. omega (arith, pounds_small text h))
    (either (has_pence text) (value text) 99999999 p None
    (λ h.
    let size = nat_le 4 (length text) && nat_eq (slice_index text (length text - 3)) 46 in
    let pounds = is_pounds (take (length text - 3) text) in
    let digits = list_all is_ascii_digit (drop (length text - 2) text) in
    omega (
      arith,
      pounds_small (take (length text - 3) text) (and_right size pounds (and_left (size && pounds) digits h)),
      two_small text (and_right (size && pounds) digits h),
    ))
    (λ h. absurd (cc)))

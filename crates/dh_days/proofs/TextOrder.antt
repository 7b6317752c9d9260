-- The order of texts of digits.
use Rattle.std.proofs.Common.{◌≡◌, ◌∙◌, sym, ap, refl, ℕ, ◌+◌, ◌*◌, ◌/◌, ◌%◌, ◌<◌, List, [], ◌∷◌, ◌++◌, length, arith}
use Rattle.std.specs.declared.cmp.Ordering.{Ordering}
use Rattle.std.specs.declared.cmp.Ordering.TheVariants.{Less, Equal, Greater}
use Rattle.std.specs.Ordering.{nat_cmp, ordering_then, MatchOrdering}
use Rattle.std.specs.Cmp.{ranked, nat_cmp_is}
use Rattle.std.specs.Cmp.Lexicographic.{slice_cmp}
use Rattle.std.proofs.Math.Nat.{mul-le-mul_left}
use Rattle.std.specs.Fmt.{decimal}
use Rattle.dh_days.specs.Months.{IsMonth, month_text, two_digits}
use Rattle.dh_days.specs.Days.{IsDay, day_text, month_of_day, number_in_month}
use Rattle.dh_days.proofs.MonthTexts.{four_digits}

-- numbers by their quotients and remainders
module _ (k x y : ℕ) (positive : 0 < k) where
  less : x / k < y / k → x < y
  less h = omega (arith, mul-le-mul_left k h)

  more : y / k < x / k → y < x
  more h = omega (arith, mul-le-mul_left k h)

  ranks : (o r : Ordering) → MatchOrdering o (x / k < y / k) (x / k ≡ y / k) (y / k < x / k) → MatchOrdering r (x % k < y % k) (x % k ≡ y % k) (y % k < x % k)
      → MatchOrdering (ordering_then o r) (x < y) (x ≡ y) (y < x)
  ranks Less r p q = less p
  ranks Greater r p q = more p
  ranks Equal Less p q = omega (arith, ap (λ z. k * z) p)
  ranks Equal Equal p q = omega (arith, ap (λ z. k * z) p)
  ranks Equal Greater p q = omega (arith, ap (λ z. k * z) p)

  -- the quotients decide, and else the remainders
  by_parts : ordering_then (nat_cmp (x / k) (y / k)) (nat_cmp (x % k) (y % k)) ≡ nat_cmp x y
  by_parts = nat_cmp_is x y _ (ranks _ _ (ranked (x / k) (y / k) _ refl) (ranked (x % k) (y % k) _ refl))

shifted_rank : (k x y : ℕ) (o : Ordering) → MatchOrdering o (x < y) (x ≡ y) (y < x) → MatchOrdering o (k + x < k + y) (k + x ≡ k + y) (k + y < k + x)
shifted_rank k x y Less h = omega arith
shifted_rank k x y Equal h = omega arith
shifted_rank k x y Greater h = omega arith

shifted_cmp : (k x y : ℕ) → nat_cmp (k + x) (k + y) ≡ nat_cmp x y
shifted_cmp k x y = sym (nat_cmp_is (k + x) (k + y) _ (shifted_rank k x y _ (ranked x y _ refl)))

then_equal : (o : Ordering) → ordering_then o Equal ≡ o
then_equal Less = refl
then_equal Equal = refl
then_equal Greater = refl

then_then : (o p q : Ordering) → ordering_then o (ordering_then p q) ≡ ordering_then (ordering_then o p) q
then_then Less p q = refl
then_then Equal p q = refl
then_then Greater p q = refl

-- two texts in parts, of which the first are as long
cmp_append : (xs ys us vs : List ℕ) → length xs ≡ length ys → slice_cmp nat_cmp (xs ++ us) (ys ++ vs)
    ≡ ordering_then (slice_cmp nat_cmp xs ys) (slice_cmp nat_cmp us vs)
cmp_append [] [] us vs h = refl
cmp_append [] (y ∷ ys) us vs h = absurd (omega arith)
cmp_append (x ∷ xs) [] us vs h = absurd (omega arith)
cmp_append (x ∷ xs) (y ∷ ys) us vs h =
    let rest : length xs ≡ length ys = omega arith in
    ap (ordering_then (nat_cmp x y)) (cmp_append xs ys us vs rest) ∙ then_then (nat_cmp x y) (slice_cmp nat_cmp xs ys) (slice_cmp nat_cmp us vs)

after_cmp : (x y : ℕ) → nat_cmp (x + 1) (y + 1) ≡ nat_cmp x y
after_cmp x y =
    let e : x + 1 ≡ 1 + x = omega arith in
    let f : y + 1 ≡ 1 + y = omega arith in
    (λ i. nat_cmp (e i) (f i)) ∙ shifted_cmp 1 x y

digit_cmp : (x y : ℕ) → ordering_then (nat_cmp (x / 10) (y / 10)) (nat_cmp (48 + x % 10) (48 + y % 10)) ≡ nat_cmp x y
digit_cmp x y = ap (ordering_then (nat_cmp (x / 10) (y / 10))) (shifted_cmp 48 (x % 10) (y % 10)) ∙ by_parts 10 x y (omega arith)

pub two_digits_cmp : (m n : ℕ) → slice_cmp nat_cmp (two_digits m) (two_digits n) ≡ nat_cmp m n
two_digits_cmp m n = rw (then_equal (nat_cmp (48 + m % 10) (48 + n % 10)), shifted_cmp 48 (m / 10) (n / 10)) (digit_cmp m n)

-- four digits
abbrev pub four : ℕ → List ℕ
four y = (48 + y / 10 / 10 / 10) ∷ (48 + y / 10 / 10 % 10) ∷ (48 + y / 10 % 10) ∷ (48 + y % 10) ∷ []

regrouped : (a b c d : Ordering) → ordering_then a (ordering_then b (ordering_then c (ordering_then d Equal)))
    ≡ ordering_then (ordering_then (ordering_then a b) c) d
regrouped a b c d = rw (then_equal d, then_then a b (ordering_then c d), then_then (ordering_then a b) c d) refl

four_cmp : (x y : ℕ) → slice_cmp nat_cmp (four x) (four y) ≡ nat_cmp x y
four_cmp x y =
    regrouped (nat_cmp (48 + x / 10 / 10 / 10) (48 + y / 10 / 10 / 10)) (nat_cmp (48 + x / 10 / 10 % 10) (48 + y / 10 / 10 % 10))
    (nat_cmp (48 + x / 10 % 10) (48 + y / 10 % 10)) (nat_cmp (48 + x % 10) (48 + y % 10))
    ∙ rw (shifted_cmp 48 (x / 10 / 10 / 10) (y / 10 / 10 / 10), digit_cmp (x / 10 / 10) (y / 10 / 10), digit_cmp (x / 10) (y / 10)) (digit_cmp x y)

-- behind a first part of one length, a dash and two digits
dashed_cmp : (xs ys : List ℕ) (m n : ℕ) → length xs ≡ length ys → slice_cmp nat_cmp (xs ++ 45 ∷ two_digits m) (ys ++ 45 ∷ two_digits n)
    ≡ ordering_then (slice_cmp nat_cmp xs ys) (nat_cmp m n)
dashed_cmp xs ys m n h =
    cmp_append xs ys (45 ∷ two_digits m) (45 ∷ two_digits n) h
    ∙ ap (ordering_then (slice_cmp nat_cmp xs ys)) (two_digits_cmp m n)

year_text : (n : ℕ) → IsMonth n → decimal (n / 12) ≡ four (n / 12)
year_text n h = four_digits (n / 12) (omega arith) (omega arith)

pub month_text_length : (n : ℕ) → IsMonth n → length (month_text n) ≡ 7
month_text_length n h = rw (year_text n h) refl

pub month_texts_in_order : (m n : ℕ) → IsMonth m → IsMonth n → slice_cmp nat_cmp (month_text m) (month_text n) ≡ nat_cmp m n
month_texts_in_order m n p q =
    let texts = dashed_cmp (four (m / 12)) (four (n / 12)) (m % 12 + 1) (n % 12 + 1) refl in
    let numbers = rw (four_cmp (m / 12) (n / 12), after_cmp (m % 12) (n % 12), by_parts 12 m n (omega arith)) at texts in
    rw (year_text m p, year_text n q) numbers

pub day_texts_in_order : (d e : ℕ) → IsDay d → IsDay e → slice_cmp nat_cmp (day_text d) (day_text e) ≡ nat_cmp d e
day_texts_in_order d e p q =
    let long = month_text_length (month_of_day d) p.0 ∙ sym (month_text_length (month_of_day e) q.0) in
    let texts = dashed_cmp (month_text (month_of_day d)) (month_text (month_of_day e)) (number_in_month d) (number_in_month e) long in
    rw (month_texts_in_order (month_of_day d) (month_of_day e) p.0 q.0, after_cmp (d % 31) (e % 31), by_parts 31 d e (omega arith)) at texts

-- texts that are one are of one order
itself : (n : ℕ) → nat_cmp n n ≡ Equal
itself n = sym (nat_cmp_is n n Equal refl)

apart : (m n : ℕ) → nat_cmp m n ≡ Equal → m ≡ n
apart m n h = ranked m n Equal (sym h)

pub months_apart : (m n : ℕ) → IsMonth m → IsMonth n → month_text m ≡ month_text n → m ≡ n
months_apart m n p q same =
    apart m n (sym (month_texts_in_order m n p q) ∙ (ap (λ t. slice_cmp nat_cmp t (month_text n)) same ∙ (month_texts_in_order n n q q ∙ itself n)))

pub days_apart : (d e : ℕ) → IsDay d → IsDay e → day_text d ≡ day_text e → d ≡ e
days_apart d e p q same =
    apart d e (sym (day_texts_in_order d e p q) ∙ (ap (λ t. slice_cmp nat_cmp t (day_text e)) same ∙ (day_texts_in_order e e q q ∙ itself e)))

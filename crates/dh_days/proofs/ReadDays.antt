-- A day that is read prints as it was read, and a text that a day prints as is read as no other.
use Rattle.std.proofs.Common.{◌≡◌, ◌⊎◌, ◌∙◌, inl, inr, sym, ap, refl, ℕ, zero, suc, ◌+◌, ◌-◌, ◌*◌, ◌/◌, ◌%◌, ◌<◌, ◌≤◌, ◌==◌, Bool, true, false, ◌&&◌}
use Rattle.std.proofs.Common.{nat_le, nat_eq}
use Rattle.std.proofs.Common.{if◌then◌else◌, Option, Some, None, is_some, List, [], ◌∷◌, length, take, drop, slice_index, arith, length-append}
use Rattle.std.specs.Char.{is_ascii_digit}
use Rattle.std.specs.Fmt.{decimal, digits, digits_onto, digit_glyph}
use Rattle.std.specs.List.{list_all}
use Rattle.std.specs.Prelude.{option_and_then}
use Rattle.std.proofs.lemmas.Bool.{cases_lt}
use Rattle.std.proofs.lemmas.Bool.Decides.{nat_tests}
use Rattle.std.proofs.lemmas.Fmt.{length-decimal-le}
use Rattle.dh_values.proofs.Ascii.{and_left, and_right}
use Rattle.dh_values.specs.Numbers.{number}
use Rattle.dh_days.specs.Months.{IsMonth, has_month_form, month_of, month_text, two_digits}
use Rattle.dh_days.specs.Days.{IsDay, day_at, day_at_until, day_text, day_until, days_in, has_day_form, month_of_day, number_in_month}
use Rattle.dh_days.proofs.DayMonths.{days_in_bounds}
use Rattle.dh_days.proofs.MonthTexts.{four_digits}

-- ---- what a text that is read says

if_some : {A : Type 0} (b : Bool) (o : Option A) (x : A) → (if b then o else None) ≡ Some x → (b ≡ true) × (o ≡ Some x)
if_some true o x h = (refl, h)
if_some false o x h = absurd (cc)

some_is : (x y : ℕ) → Some x ≡ Some y → x ≡ y
some_is x y h = cc

tested : (m n : ℕ) → nat_le m n ≡ true → m ≤ n
tested m n h = grind (arith, nat_tests)

record IsMonthRead (month year in_year : ℕ) : Type 0 where
  year_from : 2000 ≤ year
  year_to : year ≤ 2200
  from : 1 ≤ in_year
  to : in_year ≤ 12
  is : 12 * year + in_year - 1 ≡ month

record IsDayRead (last month number day : ℕ) : Type 0 where
  until : month ≤ last
  from : 1 ≤ number
  to : number ≤ days_in month
  is : 31 * month + number - 1 ≡ day

month_read : (text : List ℕ) (month : ℕ) → month_of text ≡ Some month
    → (has_month_form text ≡ true) × IsMonthRead month (number (take 4 text)) (number (drop 5 text))
month_read text month h =
    let year = number (take 4 text) in
    let in_year = number (drop 5 text) in
    let good = has_month_form text && nat_le 2000 year && nat_le year 2200 && nat_le 1 in_year && nat_le in_year 12 in
    let parts = if_some good (Some (12 * year + in_year - 1)) month h in
    let four = and_left (has_month_form text && nat_le 2000 year && nat_le year 2200 && nat_le 1 in_year) (nat_le in_year 12) parts.0 in
    let three = and_left (has_month_form text && nat_le 2000 year && nat_le year 2200) (nat_le 1 in_year) four in
    let two = and_left (has_month_form text && nat_le 2000 year) (nat_le year 2200) three in (
      and_left (has_month_form text) (nat_le 2000 year) two,
      record {
        year_from = tested 2000 year (and_right (has_month_form text) (nat_le 2000 year) two);
        year_to = tested year 2200 (and_right (has_month_form text && nat_le 2000 year) (nat_le year 2200) three);
        from = tested 1 in_year (and_right (has_month_form text && nat_le 2000 year && nat_le year 2200) (nat_le 1 in_year) four);
        to = tested in_year 12 (and_right (has_month_form text && nat_le 2000 year && nat_le year 2200 && nat_le 1 in_year) (nat_le in_year 12) parts.0);
        is = some_is (12 * year + in_year - 1) month parts.1;
      },
    )

day_read : (last number month day : ℕ) → day_at_until last number month ≡ Some day → IsDayRead last month number day
day_read last number month day h =
    let parts = if_some (nat_le month last && nat_le 1 number && nat_le number (days_in month)) (Some (day_at month number)) day h in
    let two = and_left (nat_le month last && nat_le 1 number) (nat_le number (days_in month)) parts.0 in
    record {
      until = tested month last (and_left (nat_le month last) (nat_le 1 number) two);
      from = tested 1 number (and_right (nat_le month last) (nat_le 1 number) two);
      to = tested number (days_in month) (and_right (nat_le month last && nat_le 1 number) (nat_le number (days_in month)) parts.0);
      is = some_is (day_at month number) day parts.1;
    }

-- what a text of a day says of its parts
record IsRead (last : ℕ) (text : List ℕ) (day : ℕ) : Type 0 where
  month : ℕ
  form : has_day_form text ≡ true
  month_form : has_month_form (take 7 text) ≡ true
  month_is : IsMonthRead month (number (take 4 (take 7 text))) (number (drop 5 (take 7 text)))
  day_is : IsDayRead last month (number (drop 8 text)) day

of_month : (last day : ℕ) (text : List ℕ) (o : Option ℕ) → has_day_form text ≡ true → month_of (take 7 text) ≡ o
    → option_and_then (day_at_until last (number (drop 8 text))) o ≡ Some day → IsRead last text day
of_month last day text None form e h = absurd (cc)
of_month last day text (Some month) form e h =
    let it = month_read (take 7 text) month e in
    record { month = month; form = form; month_form = it.0; month_is = it.1; day_is = day_read last (number (drop 8 text)) month day h }

read_day : (last day : ℕ) (text : List ℕ) → day_until last text ≡ Some day → IsRead last text day
read_day last day text h =
    let parts = if_some (has_day_form text) (option_and_then (day_at_until last (number (drop 8 text))) (month_of (take 7 text))) day h in
    of_month last day text (month_of (take 7 text)) parts.0 refl parts.1

pub read_day_known : (last day : ℕ) (text : List ℕ) → day_until last text ≡ Some day → IsDay day × (month_of_day day ≤ last)
read_day_known last day text h =
    let it = read_day last day text h in
    let limit = days_in_bounds it.month in
    let month : month_of_day day ≡ it.month = omega (arith, it.day_is.is, it.day_is.from, it.day_is.to, limit.1) in
    let number_is : number_in_month day ≡ number (drop 8 text) = omega (arith, it.day_is.is, it.day_is.from, it.day_is.to, limit.1) in
    let known : IsMonth it.month = (omega (arith, it.month_is.is, it.month_is.year_from), omega (arith, it.month_is.is, it.month_is.year_to, it.month_is.to)) in
    rw (month, number_is) ((known, it.day_is.to), it.day_is.until)

-- ---- the ten bytes of a day

abbrev ten : (y m k : ℕ) → List ℕ
ten y m k =
    (48 + y / 10 / 10 / 10) ∷ (48 + y / 10 / 10 % 10) ∷ (48 + y / 10 % 10) ∷ (48 + y % 10) ∷ 45 ∷ (48 + m / 10) ∷ (48 + m % 10) ∷ 45
    ∷ (48 + k / 10) ∷ (48 + k % 10) ∷ []

ten_text : (day y m k : ℕ) → day / 31 / 12 ≡ y → day / 31 % 12 + 1 ≡ m → day % 31 + 1 ≡ k → 1000 ≤ y → y < 10000 → day_text day ≡ ten y m k
ten_text day y m k p q r low high = rw (p, q, r, four_digits y low high) refl

digit_is : (c : ℕ) → is_ascii_digit c ≡ true → (48 ≤ c) × (c ≤ 57)
digit_is c h = (grind (arith, nat_tests), grind (arith, nat_tests))

same_byte : (a b : ℕ) → nat_eq a b ≡ true → a ≡ b
same_byte a b h = grind (arith, nat_tests)

-- the first byte is a digit, and so are those behind it
digit_first : (c : ℕ) (cs : List ℕ) → list_all is_ascii_digit (c ∷ cs) ≡ true → ((48 ≤ c) × (c ≤ 57)) × (list_all is_ascii_digit cs ≡ true)
digit_first c cs h = (digit_is c (and_left (is_ascii_digit c) (list_all is_ascii_digit cs) h), and_right (is_ascii_digit c) (list_all is_ascii_digit cs) h)

-- the two bytes of a number
two_bytes : (c d k : ℕ) → list_all is_ascii_digit (c ∷ d ∷ []) ≡ true → number (c ∷ d ∷ []) ≡ k → (48 + k / 10 ≡ c) × (48 + k % 10 ≡ d)
two_bytes c d k h e =
    let tens = digit_first c (d ∷ []) h in
    let ones = digit_first d [] tens.1 in
    (omega (arith, tens.0, ones.0, e), omega (arith, tens.0, ones.0, e))

-- the four bytes of a year
record AreBytes (a b c d year : ℕ) : Type 0 where
  thousands : 48 + year / 10 / 10 / 10 ≡ a
  hundreds : 48 + year / 10 / 10 % 10 ≡ b
  tens : 48 + year / 10 % 10 ≡ c
  ones : 48 + year % 10 ≡ d

four_bytes : (a b c d year : ℕ) → list_all is_ascii_digit (a ∷ b ∷ c ∷ d ∷ []) ≡ true → number (a ∷ b ∷ c ∷ d ∷ []) ≡ year → AreBytes a b c d year
four_bytes a b c d year h e =
    let p = digit_first a (b ∷ c ∷ d ∷ []) h in
    let q = digit_first b (c ∷ d ∷ []) p.1 in
    let r = digit_first c (d ∷ []) q.1 in
    let s = digit_first d [] r.1 in
    record {
      thousands = omega (arith, p.0, q.0, r.0, s.0, e);
      hundreds = omega (arith, p.0, q.0, r.0, s.0, e);
      tens = omega (arith, p.0, q.0, r.0, s.0, e);
      ones = omega (arith, p.0, q.0, r.0, s.0, e);
    }

-- what the forms of seven and of ten bytes say
form_of_month : (a b c d e f g : ℕ) → has_month_form (a ∷ b ∷ c ∷ d ∷ e ∷ f ∷ g ∷ []) ≡ true
    → (list_all is_ascii_digit (a ∷ b ∷ c ∷ d ∷ []) ≡ true) × (e ≡ 45) × (list_all is_ascii_digit (f ∷ g ∷ []) ≡ true)
form_of_month a b c d e f g h =
    let year = list_all is_ascii_digit (a ∷ b ∷ c ∷ d ∷ []) in
    let in_year = list_all is_ascii_digit (f ∷ g ∷ []) in
    let dashed = and_left (nat_eq 7 7 && year && nat_eq e 45) in_year h in (
      and_right (nat_eq 7 7) year (and_left (nat_eq 7 7 && year) (nat_eq e 45) dashed),
      same_byte e 45 (and_right (nat_eq 7 7 && year) (nat_eq e 45) dashed),
      and_right (nat_eq 7 7 && year && nat_eq e 45) in_year h,
    )

form_of_day : (a b c d e f g h i j : ℕ) → has_day_form (a ∷ b ∷ c ∷ d ∷ e ∷ f ∷ g ∷ h ∷ i ∷ j ∷ []) ≡ true
    → (h ≡ 45) × (list_all is_ascii_digit (i ∷ j ∷ []) ≡ true)
form_of_day a b c d e f g h i j form =
    let number_is = list_all is_ascii_digit (i ∷ j ∷ []) in
    let dashed = and_left (nat_eq 10 10 && nat_eq h 45) number_is form in
    (same_byte h 45 (and_right (nat_eq 10 10) (nat_eq h 45) dashed), and_right (nat_eq 10 10 && nat_eq h 45) number_is form)

printed_ten : (last day a b c d e f g h i j : ℕ) → IsRead last (a ∷ b ∷ c ∷ d ∷ e ∷ f ∷ g ∷ h ∷ i ∷ j ∷ []) day
    → day_text day ≡ a ∷ b ∷ c ∷ d ∷ e ∷ f ∷ g ∷ h ∷ i ∷ j ∷ []
printed_ten last day a b c d e f g h i j it =
    let year = number (a ∷ b ∷ c ∷ d ∷ []) in
    let in_year = number (f ∷ g ∷ []) in
    let number_is = number (i ∷ j ∷ []) in
    let limit = days_in_bounds it.month in
    let month : day / 31 ≡ it.month = omega (arith, it.day_is.is, it.day_is.from, it.day_is.to, limit.1) in
    let last_two : day % 31 + 1 ≡ number_is = omega (arith, it.day_is.is, it.day_is.from, it.day_is.to, limit.1) in
    let year_is : day / 31 / 12 ≡ year = omega (arith, month, it.month_is.is, it.month_is.from, it.month_is.to) in
    let in_year_is : day / 31 % 12 + 1 ≡ in_year = omega (arith, month, it.month_is.is, it.month_is.from, it.month_is.to) in
    let of_month = form_of_month a b c d e f g it.month_form in
    let of_day = form_of_day a b c d e f g h i j it.form in
    let y = four_bytes a b c d year of_month.0 refl in
    let m = two_bytes f g in_year of_month.2 refl in
    let k = two_bytes i j number_is of_day.1 refl in
    ten_text day year in_year number_is year_is in_year_is last_two (omega (arith, it.month_is.year_from)) (omega (arith, it.month_is.year_to))
    ∙ (λ t. y.thousands t ∷ y.hundreds t ∷ y.tens t ∷ y.ones t ∷ sym of_month.1 t ∷ m.0 t ∷ m.1 t ∷ sym of_day.0 t ∷ k.0 t ∷ k.1 t ∷ [])

-- a text of the form of a day has ten bytes
printed : (last day : ℕ) (text : List ℕ) → length text ≡ 10 → IsRead last text day → day_text day ≡ text
printed last day (a ∷ b ∷ c ∷ d ∷ e ∷ f ∷ g ∷ h ∷ i ∷ j ∷ []) long it = printed_ten last day a b c d e f g h i j it
printed last day (a ∷ b ∷ c ∷ d ∷ e ∷ f ∷ g ∷ h ∷ i ∷ j ∷ k ∷ more) long it = absurd (omega arith)
printed last day [] long it = absurd (omega arith)
printed last day (a ∷ []) long it = absurd (omega arith)
printed last day (a ∷ b ∷ []) long it = absurd (omega arith)
printed last day (a ∷ b ∷ c ∷ []) long it = absurd (omega arith)
printed last day (a ∷ b ∷ c ∷ d ∷ []) long it = absurd (omega arith)
printed last day (a ∷ b ∷ c ∷ d ∷ e ∷ []) long it = absurd (omega arith)
printed last day (a ∷ b ∷ c ∷ d ∷ e ∷ f ∷ []) long it = absurd (omega arith)
printed last day (a ∷ b ∷ c ∷ d ∷ e ∷ f ∷ g ∷ []) long it = absurd (omega arith)
printed last day (a ∷ b ∷ c ∷ d ∷ e ∷ f ∷ g ∷ h ∷ []) long it = absurd (omega arith)
printed last day (a ∷ b ∷ c ∷ d ∷ e ∷ f ∷ g ∷ h ∷ i ∷ []) long it = absurd (omega arith)

long_of_form : (text : List ℕ) → has_day_form text ≡ true → length text ≡ 10
long_of_form text h =
    let size = and_left (nat_eq (length text) 10) (nat_eq (slice_index text 7) 45)
    (and_left (nat_eq (length text) 10 && nat_eq (slice_index text 7) 45) (list_all is_ascii_digit (drop 8 text)) h) in
    same_byte (length text) 10 size

pub read_day_printed : (last day : ℕ) (text : List ℕ) → day_until last text ≡ Some day → day_text day ≡ text
read_day_printed last day text h = let it = read_day last day text h in printed last day text (long_of_form text it.form) it

-- ---- the text of any number of a day

either_long : (b : Bool) (least : ℕ) (xs ys : List ℕ) → least ≤ length xs → least ≤ length ys → least ≤ length (if b then xs else ys)
either_long true least xs ys h k = h
either_long false least xs ys h k = k

no_shorter : (k n : ℕ) (acc : List ℕ) → length acc ≤ length (digits_onto k 10 false n acc)
no_shorter zero n acc = omega arith
no_shorter (suc k) n acc =
    let more = digit_glyph false (n % 10) ∷ acc in
    either_long (n / 10 == 0) (length acc) more _ (omega arith) (omega (arith, no_shorter k (n / 10) more))

one_longer : (k n : ℕ) (acc : List ℕ) → length acc + 1 ≤ length (digits_onto (suc k) 10 false n acc)
one_longer k n acc =
    either_long (n / 10 == 0) (length acc + 1) (digit_glyph false (n % 10) ∷ acc) _ (omega arith)
    (omega (arith, no_shorter k (n / 10) (digit_glyph false (n % 10) ∷ acc)))

no_zero : (n : ℕ) → 1 ≤ n → (n == 0) ≡ false
no_zero n h = grind (arith, nat_tests)

-- one digit more
step : (k n : ℕ) (acc : List ℕ) → 10 ≤ n → digits_onto (suc k) 10 false n acc ≡ digits_onto k 10 false (n / 10) (digit_glyph false (n % 10) ∷ acc)
step k n acc h = rw (no_zero (n / 10) (omega arith)) refl

five_long : (k n : ℕ) → 10000 ≤ n → 5 ≤ length (digits_onto (suc (suc (suc (suc (suc k))))) 10 false n [])
five_long k n h =
    let same = step (suc (suc (suc (suc k)))) n [] (omega arith) ∙ step (suc (suc (suc k))) (n / 10) _ (omega arith)
    ∙ step (suc (suc k)) (n / 10 / 10) _ (omega arith) ∙ step (suc k) (n / 10 / 10 / 10) _ (omega arith) in
    omega (
      arith,
      ap length same,
      one_longer k (n / 10 / 10 / 10 / 10) (digit_glyph false (n / 10 / 10 / 10 % 10) ∷ digit_glyph false (n / 10 / 10 % 10)
          ∷ digit_glyph false (n / 10 % 10) ∷ digit_glyph false (n % 10) ∷ []),
    )

long_number : (n : ℕ) → 10000 ≤ n → 5 ≤ length (decimal n)
unfolding digits
long_number n h = five_long 59 n h

no_three : (n : ℕ) → length (decimal n) ≡ 4 → (n < 1000) ⊎ (1000 ≤ n) → 1000 ≤ n
no_three n h (inl small) = absurd (omega (arith, length-decimal-le 3 n (omega arith) (omega arith) (omega arith)))
no_three n h (inr large) = large

no_five : (n : ℕ) → length (decimal n) ≡ 4 → (n < 10000) ⊎ (10000 ≤ n) → n < 10000
no_five n h (inl small) = small
no_five n h (inr large) = absurd (omega (arith, long_number n large))

four_long : (n : ℕ) → length (decimal n) ≡ 4 → (1000 ≤ n) × (n < 10000)
four_long n h = (no_three n h (cases_lt n 1000), no_five n h (cases_lt n 10000))

day_text_long : (day : ℕ) → length (day_text day) ≡ length (decimal (day / 31 / 12)) + 6
day_text_long day =
    let month = length-append (decimal (day / 31 / 12)) (45 ∷ two_digits (day / 31 % 12 + 1)) in
    omega (arith, length-append (month_text (day / 31)) (45 ∷ two_digits (day % 31 + 1)), month)

-- the numbers of the ten bytes
four_number : (a b c d : ℕ) → number ((48 + a) ∷ (48 + b) ∷ (48 + c) ∷ (48 + d) ∷ []) ≡ 1000 * a + 100 * b + 10 * c + d
four_number a b c d = omega arith

four_digits_number : (y : ℕ) → number (take 4 (take 7 (ten y 0 0))) ≡ y
four_digits_number y = four_number (y / 10 / 10 / 10) (y / 10 / 10 % 10) (y / 10 % 10) (y % 10) ∙ omega arith

two_number : (a b : ℕ) → number ((48 + a) ∷ (48 + b) ∷ []) ≡ 10 * a + b
two_number a b = omega arith

two_digits_number : (k : ℕ) → number (two_digits k) ≡ k
two_digits_number k = two_number (k / 10) (k % 10) ∙ omega arith

place : (day y m k month other : ℕ) → day / 31 / 12 ≡ y → day / 31 % 12 + 1 ≡ m → day % 31 + 1 ≡ k → 12 * y + m - 1 ≡ month
    → 31 * month + k - 1 ≡ other → other ≡ day
place day y m k month other p q r e f =
    let same : month ≡ day / 31 = omega (arith, p, q, e) in
    omega (arith, same, r, f)

-- the ten bytes of a number of a day are read as that number
ten_again : (last day other y m k : ℕ) → day / 31 / 12 ≡ y → day / 31 % 12 + 1 ≡ m → day % 31 + 1 ≡ k → IsRead last (ten y m k) other → other ≡ day
ten_again last day other y m k p q r it =
    place day y m k it.month other p q r
    (rw (four_digits_number y, two_digits_number m) at it.month_is.is)
    (rw (two_digits_number k) at it.day_is.is)

again : (last day : ℕ) (o : Option ℕ) → day_until last (day_text day) ≡ o → is_some o ≡ true → o ≡ Some day
again last day None e h = absurd (cc)
again last day (Some other) e h =
    let it = read_day last other (day_text day) e in
    let four : length (decimal (day / 31 / 12)) ≡ 4 = omega (arith, day_text_long day, long_of_form (day_text day) it.form) in
    let year = four_long (day / 31 / 12) four in
    let text = ten_text day (day / 31 / 12) (day / 31 % 12 + 1) (day % 31 + 1) refl refl refl year.0 year.1 in
    let read = read_day last other (ten (day / 31 / 12) (day / 31 % 12 + 1) (day % 31 + 1)) (ap (day_until last) (sym text) ∙ e) in
    ap (λ n. Some n) (ten_again last day other (day / 31 / 12) (day / 31 % 12 + 1) (day % 31 + 1) refl refl refl read)

-- where the text of a number is read at all, it is read as that number
pub text_read_again : (last day : ℕ) → is_some (day_until last (day_text day)) ≡ true → day_until last (day_text day) ≡ Some day
text_read_again last day h = again last day (day_until last (day_text day)) refl h

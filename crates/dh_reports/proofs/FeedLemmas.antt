-- How many line feeds the lines of reports have.
use Rattle.std.proofs.Common.{◌≡◌, ◌∙◌, ap, refl, ℕ, zero, suc, ◌+◌, ◌-◌, ◌/◌, ◌%◌, ◌<◌, Bool, true, false, cond, ◌==◌, if◌then◌else◌, nat_eq}
use Rattle.std.proofs.Common.{ℤ, pos, negsuc, List, [], ◌∷◌, ◌++◌, length, get_or, replicate, arith, zero-add}
use Rattle.std.specs.List.{list_all, join_with_byte}
use Rattle.std.specs.Fmt.{decimal, digit_glyph, digits, digits_onto}
use Rattle.std.specs.Str.{NonePass, chars}
use Rattle.std.proofs.lemmas.Bool.Decides.{nat_tests}
use Rattle.std.proofs.lemmas.List.Sums.{sum_by-append, sum_by-cons}
use Rattle.std.proofs.lemmas.Str.{IsUtf8-from_is_utf8, NoCharPasses-byte, encodes-chars}
use Rattle.dh_values.specs.Kinds.{property_type_text, receipt_kind_text}
use Rattle.dh_values.specs.Money.{money_text, pence_text}
use Rattle.dh_values.specs.Texts.{is_code_byte, is_id, is_printable, is_text}
use Rattle.dh_values.specs.declared.property_type.PropertyType.{PropertyType}
use Rattle.dh_values.specs.declared.property_type.PropertyType.TheVariants.{House, Flat}
use Rattle.dh_values.specs.declared.receipt_kind.ReceiptKind.{ReceiptKind}
use Rattle.dh_values.specs.declared.receipt_kind.ReceiptKind.TheVariants.{Rent, Deposit}
use Rattle.dh_values.proofs.Ascii.{and_left, and_right}
use Rattle.dh_days.specs.Days.{day_text}
use Rattle.dh_days.specs.Months.{month_text, two_digits}
use Rattle.dh_reports.specs.Columns.{left_aligned, line, line_feeds, right_aligned}

-- what a byte adds
abbrev feed : ℕ → ℕ
feed b = cond (nat_eq b 10) 1 0

pub joined : (xs ys : List ℕ) → line_feeds (xs ++ ys) ≡ line_feeds xs + line_feeds ys
joined = sum_by-append feed

behind : (b : ℕ) (bs : List ℕ) → line_feeds (b ∷ bs) ≡ feed b + line_feeds bs
behind = sum_by-cons feed

adds_none : (b : ℕ) → (b ≡ 10 → ⊥) → feed b ≡ 0
adds_none b h = grind (arith, nat_tests)

-- behind another byte
skip : (b : ℕ) (bs : List ℕ) → (b ≡ 10 → ⊥) → line_feeds (b ∷ bs) ≡ line_feeds bs
skip b bs h = behind b bs ∙ ap (λ n. n + line_feeds bs) (adds_none b h) ∙ zero-add (line_feeds bs)

both_none : (xs ys : List ℕ) → line_feeds xs ≡ 0 → line_feeds ys ≡ 0 → line_feeds (xs ++ ys) ≡ 0
both_none xs ys h k = joined xs ys ∙ ap (λ n. n + line_feeds ys) h ∙ zero-add (line_feeds ys) ∙ k

pub spaces_none : (n : ℕ) → line_feeds (replicate n 32) ≡ 0
spaces_none zero = refl
spaces_none (suc n) = skip 32 (replicate n 32) (λ e. omega arith) ∙ spaces_none n

pub left_none : (width : ℕ) (text : List ℕ) → line_feeds text ≡ 0 → line_feeds (left_aligned width text) ≡ 0
left_none width text h = let n = width - length text in both_none text (replicate n 32) h (spaces_none n)

pub right_none : (width : ℕ) (text : List ℕ) → line_feeds text ≡ 0 → line_feeds (right_aligned width text) ≡ 0
right_none width text h = let n = width - length text in both_none (replicate n 32) text (spaces_none n) h

-- no text of the list has one
abbrev pub HaveNone : List (List ℕ) → Type 0
HaveNone [] = Unit {0}
HaveNone (text ∷ texts) = (line_feeds text ≡ 0) × HaveNone texts

columns_none : (columns : List (List ℕ)) → HaveNone columns → line_feeds (join_with_byte 32 columns) ≡ 0
columns_none [] h = refl
columns_none (x ∷ []) h = h.0
columns_none (x ∷ y ∷ xs) h =
    let others = join_with_byte 32 (y ∷ xs) in
    both_none x (32 ∷ others) h.0 (skip 32 others (λ e. omega arith) ∙ columns_none (y ∷ xs) h.1)

-- a line of columns that have none has the one at its end
pub one_line : (columns : List (List ℕ)) → HaveNone columns → line_feeds (line columns) ≡ 1
one_line columns h = joined (join_with_byte 32 columns) (10 ∷ []) ∙ ap (λ n. n + 1) (columns_none columns h)

-- digits
glyph_no_feed : (n : ℕ) → digit_glyph false (n % 10) ≡ 10 → ⊥
glyph_no_feed n e = grind (arith, nat_tests)

last_or_more : (last : Bool) (one more : List ℕ) (n : ℕ) → line_feeds one ≡ n → line_feeds more ≡ n → line_feeds (if last then one else more) ≡ n
last_or_more true one more n h k = h
last_or_more false one more n h k = k

digits_none : (k n : ℕ) (bs : List ℕ) → line_feeds (digits_onto k 10 false n bs) ≡ line_feeds bs
digits_none zero n bs = refl
digits_none (suc k) n bs =
    let digit = digit_glyph false (n % 10) in
    let here = skip digit bs (glyph_no_feed n) in
    last_or_more (n / 10 == 0) (digit ∷ bs) (digits_onto k 10 false (n / 10) (digit ∷ bs)) (line_feeds bs) here (digits_none k (n / 10) (digit ∷ bs) ∙ here)

pub decimal_none : (n : ℕ) → line_feeds (decimal n) ≡ 0
unfolding digits
decimal_none n = digits_none 64 n []

-- a mark and two digits
two_none : (mark m n : ℕ) → (mark ≡ 10 → ⊥) → line_feeds (mark ∷ (48 + m) ∷ (48 + n) ∷ []) ≡ 0
two_none mark m n h =
    skip mark ((48 + m) ∷ (48 + n) ∷ []) h ∙ skip (48 + m) ((48 + n) ∷ []) (λ e. omega arith) ∙ skip (48 + n) [] (λ e. omega arith)

pub pence_none : (p : ℕ) → line_feeds (pence_text p) ≡ 0
pence_none p =
    let tens = p % 100 / 10 in
    let ones = p % 100 % 10 in
    both_none (decimal (p / 100)) (46 ∷ (48 + tens) ∷ (48 + ones) ∷ []) (decimal_none (p / 100)) (two_none 46 tens ones (λ e. omega arith))

pub money_none : (z : ℤ) → line_feeds (money_text z) ≡ 0
money_none (pos p) = pence_none p
money_none (negsuc n) = skip 45 (pence_text (suc n)) (λ e. omega arith) ∙ pence_none (suc n)

two_digits_none : (n : ℕ) → line_feeds (45 ∷ two_digits n) ≡ 0
two_digits_none n = two_none 45 (n / 10) (n % 10) (λ e. omega arith)

pub month_none : (n : ℕ) → line_feeds (month_text n) ≡ 0
month_none n = both_none (decimal (n / 12)) (45 ∷ two_digits (n % 12 + 1)) (decimal_none (n / 12)) (two_digits_none (n % 12 + 1))

pub day_none : (d : ℕ) → line_feeds (day_text d) ≡ 0
day_none d = both_none (month_text (d / 31)) (45 ∷ two_digits (d % 31 + 1)) (month_none (d / 31)) (two_digits_none (d % 31 + 1))

pub property_type_none : (kind : PropertyType) → line_feeds (property_type_text kind) ≡ 0
property_type_none House = refl
property_type_none Flat = refl

pub receipt_kind_none : (kind : ReceiptKind) → line_feeds (receipt_kind_text kind) ≡ 0
receipt_kind_none Rent = refl
receipt_kind_none Deposit = refl

-- codes
code_no_feed : (b : ℕ) → is_code_byte b ≡ true → b ≡ 10 → ⊥
code_no_feed b h e = grind arith

code_bytes_none : (bytes : List ℕ) → list_all is_code_byte bytes ≡ true → line_feeds bytes ≡ 0
code_bytes_none [] h = refl
code_bytes_none (b ∷ bs) h = skip b bs (code_no_feed b (and_left _ _ h)) ∙ code_bytes_none bs (and_right (is_code_byte b) _ h)

pub code_none : (bytes : List ℕ) → is_id bytes ≡ true → line_feeds bytes ≡ 0
code_none bytes h = code_bytes_none bytes (and_right _ _ h)

-- texts
printable_no_feed : (c : ℕ) → is_printable c ≡ true → nat_eq c 10 ≡ false
printable_no_feed c h = grind (arith, nat_tests)

characters_none : (cs : List ℕ) → list_all is_printable cs ≡ true → NonePass (λ c. nat_eq c 10) cs
characters_none [] h = tt
characters_none (c ∷ cs) h = (printable_no_feed c (and_left _ _ h), characters_none cs (and_right (is_printable c) _ h))

-- of bytes of which none below 128 is a line feed
bytes_none : (bytes : List ℕ) → ((i : ℕ) → i < length bytes → get_or bytes i 0 < 128 → nat_eq (get_or bytes i 0) 10 ≡ false) → line_feeds bytes ≡ 0
bytes_none [] h = refl
bytes_none (b ∷ bs) h = skip b bs (first b (h 0 (omega arith))) ∙ bytes_none bs (λ i l. h (suc i) (omega arith))
  where
    first : (c : ℕ) → (c < 128 → nat_eq c 10 ≡ false) → c ≡ 10 → ⊥
    first c k e = grind (arith, nat_tests)

pub text_none : (most : ℕ) (text : List ℕ) → is_text most text ≡ true → line_feeds text ≡ 0
text_none most text h =
    let are_text = IsUtf8-from_is_utf8 text (and_left _ _ (and_left _ _ (and_left _ _ h))) in
    let none = characters_none (chars text) (and_right _ _ h) in
    bytes_none text (λ i l below. NoCharPasses-byte (λ c. nat_eq c 10) text i (chars text, encodes-chars text are_text, none) l below)

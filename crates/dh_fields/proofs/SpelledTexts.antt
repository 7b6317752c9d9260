-- What spells a value is text: bytes that are not UTF-8 spell none.
use Rattle.std.proofs.Common.{◌≡◌, ℕ, zero, suc, ◌-◌, ◌<◌, ◌≤◌, Bool, true, false, nat_lt, nat_eq, if◌then◌else◌, Option, None, Some, List, [], ◌∷◌}
use Rattle.std.proofs.Common.{length, take, drop, slice_index, option_and_then, codes, lit<, arith, refl, sym, subst}
use Rattle.std.specs.List.{list_all}
use Rattle.std.specs.Char.{is_ascii_digit}
use Rattle.std.specs.Str.{IsAscii, IsUtf8}
use Rattle.std.proofs.Math.Seq.{drop-cons}
use Rattle.std.proofs.lemmas.Bool.{eqb-true, leb-true, ltb-true}
use Rattle.std.proofs.lemmas.List.{take-append-drop}
use Rattle.std.proofs.lemmas.Str.{IsAscii-append, IsUtf8-from_ascii}
use Rattle.dh_values.proofs.Ascii.{and_left, and_right}
use Rattle.dh_values.proofs.KindTexts as kind
use Rattle.dh_values.specs.Kinds.{payment_method_of, payment_method_text, position_of, position_text, property_type_of, property_type_text, receipt_kind_of}
use Rattle.dh_values.specs.Kinds.{receipt_kind_text}
use Rattle.dh_values.specs.Money.{has_pence, is_pounds, pence_of}
use Rattle.dh_values.specs.Numbers.{is_numeral, numeral_of, within}
use Rattle.dh_values.specs.declared.payment_method.PaymentMethod.{PaymentMethod}
use Rattle.dh_values.specs.declared.payment_method.PaymentMethod.TheVariants.{Cash, Cheque, Card, Transfer}
use Rattle.dh_values.specs.declared.position.Position.{Position}
use Rattle.dh_values.specs.declared.position.Position.TheVariants.{Manager, Supervisor, Assistant}
use Rattle.dh_values.specs.declared.property_type.PropertyType.{PropertyType}
use Rattle.dh_values.specs.declared.property_type.PropertyType.TheVariants.{House, Flat}
use Rattle.dh_values.specs.declared.receipt_kind.ReceiptKind.{ReceiptKind}
use Rattle.dh_values.specs.declared.receipt_kind.ReceiptKind.TheVariants.{Rent, Deposit}
use Rattle.dh_days.specs.Days.{day_of, has_day_form}
use Rattle.dh_days.specs.Months.{has_month_form, month_of}

under : (b : ℕ) → b ≤ 57 → b < 128
under b h = omega arith

digit_below : (b : ℕ) → is_ascii_digit b ≡ true → b < 128
digit_below b h = under b (leb-true b 57 (and_right _ _ h))

digits : (text : List ℕ) → list_all is_ascii_digit text ≡ true → IsAscii text
digits [] h i = lit< tt
digits (b ∷ bs) h zero = digit_below b (and_left _ _ h)
digits (b ∷ bs) h (suc i) = digits bs (and_right (is_ascii_digit b) _ h) i

before : (b : ℕ) (bs : List ℕ) → b < 128 → IsAscii bs → IsAscii (b ∷ bs)
before b bs small h zero = small
before b bs small h (suc i) = h i

-- what stands on both sides of a byte
joined : (text : List ℕ) (i sep : ℕ) → i < length text → sep < 128 → nat_eq (slice_index text i) sep ≡ true → IsAscii (take i text)
    → IsAscii (drop (suc i) text)
    → IsAscii text
joined text i sep in_it small same front back =
    let there : slice_index text i ≡ sep = eqb-true _ sep same in
    let rest : IsAscii (drop i text) = rw (drop-cons text i 0 in_it, there) (before sep _ small back) in
    subst IsAscii (take-append-drop i text) (IsAscii-append _ _ front rest)

chosen : {A : Type 0} (b : Bool) (x y : A) → (if b then Some x else None) ≡ Some y → b ≡ true
chosen true x y h = refl
chosen false x y h = absurd (cc)

-- what lies within bounds was there
bounded : (low high n : ℕ) (m : Option ℕ) → within low high m ≡ Some n → (k : ℕ) × (m ≡ Some k)
bounded low high n None h = absurd (cc)
bounded low high n (Some m) h = (m, refl)

tested : {A : Type 0} (b : Bool) (m : Option A) (x : A) → (if b then m else None) ≡ Some x → (b ≡ true) × (m ≡ Some x)
tested true m x h = (refl, h)
tested false m x h = absurd (cc)

pub numeral-IsUtf8 : (low high n : ℕ) (text : List ℕ) → within low high (numeral_of text) ≡ Some n → IsUtf8 text
numeral-IsUtf8 low high n text h =
    let m = bounded low high n (numeral_of text) h in
    IsUtf8-from_ascii text (digits text (and_right _ _ (chosen (is_numeral text) _ m.0 m.1)))

pounds : (text : List ℕ) → is_pounds text ≡ true → IsAscii text
pounds text h = digits text (and_right _ _ h)

third_last : (l : ℕ) → 4 ≤ l → (l - 3 < l) × (suc (l - 3) ≡ l - 2)
third_last l h = (omega arith, omega arith)

pence : (text : List ℕ) → has_pence text ≡ true → IsAscii text
pence text h =
    let front = and_left _ (list_all is_ascii_digit (drop (length text - 2) text)) h in
    let point = and_left _ (is_pounds (take (length text - 3) text)) front in
    let place = third_last (length text) (leb-true 4 (length text) (and_left _ (nat_eq (slice_index text (length text - 3)) 46) point)) in
    let cents : IsAscii (drop (suc (length text - 3)) text) = rw (place.1) (digits _ (and_right _ _ h)) in
    joined text (length text - 3) 46 place.0 (lit< tt) (and_right _ _ point) (pounds _ (and_right _ _ front)) cents

money : (b c : Bool) (x y p : ℕ) (text : List ℕ) → (b ≡ true → IsAscii text) → (c ≡ true → IsAscii text)
    → (if b then Some x else if c then Some y else None) ≡ Some p → IsAscii text
money true c x y p text whole parts h = whole refl
money false true x y p text whole parts h = parts refl
money false false x y p text whole parts h = absurd (cc)

pub pence-IsUtf8 : (low high p : ℕ) (text : List ℕ) → within low high (pence_of text) ≡ Some p → IsUtf8 text
pence-IsUtf8 low high p text h =
    let m = bounded low high p (pence_of text) h in
    IsUtf8-from_ascii text (money (is_pounds text) (has_pence text) _ _ m.0 text (pounds text) (pence text) m.1)

within_it : (i n l : ℕ) → l ≡ n → i < n → i < l
within_it i n l same h = subst (λ k. i < k) (sym same) h

month_form : (text : List ℕ) → has_month_form text ≡ true → IsAscii text
month_form text h =
    let front = and_left _ (list_all is_ascii_digit (drop 5 text)) h in
    let year = and_left _ (nat_eq (slice_index text 4) 45) front in
    let long = eqb-true (length text) 7 (and_left _ (list_all is_ascii_digit (take 4 text)) year) in
    joined text 4 45 (within_it 4 7 (length text) long (lit< tt)) (lit< tt) (and_right _ _ front) (digits _ (and_right _ _ year)) (digits _ (and_right _ _ h))

month-IsAscii : (n : ℕ) (text : List ℕ) → month_of text ≡ Some n → IsAscii text
month-IsAscii n text h =
    month_form text (and_left _ _ (and_left _ _ (and_left _ _ (and_left _ _ (chosen _ _ n h)))))

pub month-IsUtf8 : (n : ℕ) (text : List ℕ) → month_of text ≡ Some n → IsUtf8 text
month-IsUtf8 n text h = IsUtf8-from_ascii text (month-IsAscii n text h)

month_first : (f : ℕ → Option ℕ) (text : List ℕ) (m : Option ℕ) (day : ℕ) → ((n : ℕ) → m ≡ Some n → IsAscii text) → option_and_then f m ≡ Some day
    → IsAscii text
month_first f text None day all h = absurd (cc)
month_first f text (Some n) day all h = all n refl

pub day-IsUtf8 : (day : ℕ) (text : List ℕ) → day_of text ≡ Some day → IsUtf8 text
day-IsUtf8 day text h =
    let c = tested (has_day_form text) _ day h in
    let front = and_left _ (list_all is_ascii_digit (drop 8 text)) c.0 in
    let long = eqb-true (length text) 10 (and_left _ (nat_eq (slice_index text 7) 45) front) in
    let month = month_first _ (take 7 text) (month_of (take 7 text)) day (λ n. month-IsAscii n (take 7 text)) c.1 in
    IsUtf8-from_ascii text (joined text 7 45 (within_it 7 10 (length text) long (lit< tt)) (lit< tt) (and_right _ _ front) month (digits _ (and_right _ _ c.0)))

abbrev pub is_small : ℕ → Bool
is_small b = nat_lt b 128

-- a text that reads as a word is that word
word : {A : Type 0} (text_of : A → List ℕ) → ((x : A) → IsUtf8 (text_of x)) → (x : A) (text : List ℕ) → text_of x ≡ text → IsUtf8 text
word text_of words x text h = subst IsUtf8 h (words x)

small : (bytes : List ℕ) → list_all is_small bytes ≡ true → IsAscii bytes
small [] h i = lit< tt
small (b ∷ bs) h zero = ltb-true b 128 (and_left _ _ h)
small (b ∷ bs) h (suc i) = small bs (and_right (is_small b) _ h) i

pub plain : (bytes : List ℕ) → list_all is_small bytes ≡ true → IsUtf8 bytes
plain bytes h = IsUtf8-from_ascii bytes (small bytes h)

positions : (x : Position) → IsUtf8 (position_text x)
positions Manager = plain (codes "Manager") refl
positions Supervisor = plain (codes "Supervisor") refl
positions Assistant = plain (codes "Assistant") refl

types : (x : PropertyType) → IsUtf8 (property_type_text x)
types House = plain (codes "House") refl
types Flat = plain (codes "Flat") refl

methods : (x : PaymentMethod) → IsUtf8 (payment_method_text x)
methods Cash = plain (codes "Cash") refl
methods Cheque = plain (codes "Cheque") refl
methods Card = plain (codes "Card") refl
methods Transfer = plain (codes "Transfer") refl

receipts : (x : ReceiptKind) → IsUtf8 (receipt_kind_text x)
receipts Rent = plain (codes "rent") refl
receipts Deposit = plain (codes "deposit") refl

pub position-IsUtf8 : (x : Position) (text : List ℕ) → position_of text ≡ Some x → IsUtf8 text
position-IsUtf8 x text h = word position_text positions x text (kind.positions.printed_back x text h)

pub property_type-IsUtf8 : (x : PropertyType) (text : List ℕ) → property_type_of text ≡ Some x → IsUtf8 text
property_type-IsUtf8 x text h = word property_type_text types x text (kind.property_types.printed_back x text h)

pub payment_method-IsUtf8 : (x : PaymentMethod) (text : List ℕ) → payment_method_of text ≡ Some x → IsUtf8 text
payment_method-IsUtf8 x text h = word payment_method_text methods x text (kind.payment_methods.printed_back x text h)

pub receipt_kind-IsUtf8 : (x : ReceiptKind) (text : List ℕ) → receipt_kind_of text ≡ Some x → IsUtf8 text
receipt_kind-IsUtf8 x text h = word receipt_kind_text receipts x text (kind.receipt_kinds.printed_back x text h)

-- Each text that is a value is UTF-8.
use Rattle.std.proofs.Common.{◌≡◌, sym, subst, refl, ℕ, zero, suc, ◌+◌, ◌/◌, ◌%◌, ◌<◌, Bool, true, false, if◌then◌else◌, Option, Some, None, is_some}
use Rattle.std.proofs.Common.{List, ◌∷◌, codes}
use Rattle.std.proofs.Common.{bytes_eq, arith}
use Rattle.std.specs.Fmt.{decimal}
use Rattle.std.specs.Str.{IsAscii, IsUtf8}
use Rattle.std.proofs.lemmas.Fmt.{IsAscii-decimal}
use Rattle.std.proofs.lemmas.Slice.Eq.{bytes_eq-Decides}
use Rattle.std.proofs.lemmas.Str.{IsAscii-append, IsUtf8-from_ascii, IsUtf8-from_is_utf8}
use Rattle.sqlite_value.specs.declared.value.Value.{Value}
use Rattle.sqlite_value.specs.declared.value.Value.TheVariants.{Null, Int, Real, Text, Blob}
use Rattle.dh_values.specs.Kinds.{payment_method_of, position_of, property_type_of, receipt_kind_of}
use Rattle.dh_values.specs.Texts.{is_text}
use Rattle.dh_values.proofs.Ascii.{is_key-IsUtf8, and_left}
use Rattle.dh_days.specs.Months.{IsMonth, month_text, two_digits}
use Rattle.dh_days.specs.Days.{IsDay, day_text, day_until}
use Rattle.dh_days.proofs.ReadDays.{read_day_known, read_day_printed}
use Rattle.dh_rows.specs.Cells.{IsTextCell, is_read_cell, is_text_that}

-- a text that passes a test of UTF-8 alone
pub passing_is_text : (test : List ℕ → Bool) → ((bytes : List ℕ) → test bytes ≡ true → IsUtf8 bytes) → (v : Value) → is_text_that test v ≡ true → IsTextCell v
unfolding is_text_that
passing_is_text test are_text (Text bytes) h = are_text bytes h
passing_is_text test are_text Null h = absurd (cc)
passing_is_text test are_text (Int n) h = absurd (cc)
passing_is_text test are_text (Real x) h = absurd (cc)
passing_is_text test are_text (Blob b) h = absurd (cc)

-- a text that is read as a value, where UTF-8 alone is
pub read_is_text : {T : Type 0} (read : List ℕ → Option T) → ((bytes : List ℕ) → is_some (read bytes) ≡ true → IsUtf8 bytes) → (v : Value)
    → is_read_cell read v ≡ true → IsTextCell v
unfolding is_read_cell
read_is_text read are_text (Text bytes) h = are_text bytes h
read_is_text read are_text Null h = absurd (cc)
read_is_text read are_text (Int n) h = absurd (cc)
read_is_text read are_text (Real x) h = absurd (cc)
read_is_text read are_text (Blob b) h = absurd (cc)

pub texts_are_utf8 : (most : ℕ) (bytes : List ℕ) → is_text most bytes ≡ true → IsUtf8 bytes
texts_are_utf8 most bytes h = IsUtf8-from_is_utf8 bytes (and_left _ _ (and_left _ _ (and_left _ _ h)))

-- the text is this word, or is read by the rest
word_or : {T : Type 0} (bytes word : List ℕ) (x : T) (rest : Option T) → IsUtf8 word → (is_some rest ≡ true → IsUtf8 bytes)
    → is_some (if bytes_eq bytes word then Some x else rest) ≡ true → IsUtf8 bytes
word_or bytes word x rest text others = by (bytes_eq bytes word) refl
  where
    by : (b : Bool) → bytes_eq bytes word ≡ b → is_some (if b then Some x else rest) ≡ true → IsUtf8 bytes
    by true e h = subst IsUtf8 (sym ((bytes_eq-Decides bytes word).0 e)) text
    by false e h = others h

pub positions_are_utf8 : (bytes : List ℕ) → is_some (position_of bytes) ≡ true → IsUtf8 bytes
positions_are_utf8 bytes =
    word_or bytes (codes "Manager") _ _ (is_key-IsUtf8 (codes "Manager") refl)
    (word_or bytes (codes "Supervisor") _ _ (is_key-IsUtf8 (codes "Supervisor") refl)
    (word_or bytes (codes "Assistant") _ None (is_key-IsUtf8 (codes "Assistant") refl) (λ none. absurd (cc))))

pub property_types_are_utf8 : (bytes : List ℕ) → is_some (property_type_of bytes) ≡ true → IsUtf8 bytes
property_types_are_utf8 bytes =
    word_or bytes (codes "House") _ _ (is_key-IsUtf8 (codes "House") refl)
    (word_or bytes (codes "Flat") _ None (is_key-IsUtf8 (codes "Flat") refl) (λ none. absurd (cc)))

pub payment_methods_are_utf8 : (bytes : List ℕ) → is_some (payment_method_of bytes) ≡ true → IsUtf8 bytes
payment_methods_are_utf8 bytes =
    word_or bytes (codes "Cash") _ _ (is_key-IsUtf8 (codes "Cash") refl)
    (word_or bytes (codes "Cheque") _ _ (is_key-IsUtf8 (codes "Cheque") refl)
    (word_or bytes (codes "Card") _ _ (is_key-IsUtf8 (codes "Card") refl)
    (word_or bytes (codes "Transfer") _ None (is_key-IsUtf8 (codes "Transfer") refl) (λ none. absurd (cc)))))

pub receipt_kinds_are_utf8 : (bytes : List ℕ) → is_some (receipt_kind_of bytes) ≡ true → IsUtf8 bytes
receipt_kinds_are_utf8 bytes =
    word_or bytes (codes "rent") _ _ (is_key-IsUtf8 (codes "rent") refl)
    (word_or bytes (codes "deposit") _ None (is_key-IsUtf8 (codes "deposit") refl) (λ none. absurd (cc)))

-- a dash and two digits
two_are_ascii : (n : ℕ) → n < 100 → IsAscii (45 ∷ two_digits n)
two_are_ascii n h zero = omega arith
two_are_ascii n h (suc zero) = omega arith
two_are_ascii n h (suc (suc zero)) = omega arith
two_are_ascii n h (suc (suc (suc i))) = omega arith

month_text_is_ascii : (n : ℕ) → IsMonth n → IsAscii (month_text n)
month_text_is_ascii n h =
    IsAscii-append (decimal (n / 12)) (45 ∷ two_digits (n % 12 + 1)) (IsAscii-decimal (n / 12) (omega arith)) (two_are_ascii (n % 12 + 1) (omega arith))

day_text_is_utf8 : (day : ℕ) → IsDay day → IsUtf8 (day_text day)
day_text_is_utf8 day h =
    IsUtf8-from_ascii (day_text day)
    (IsAscii-append (month_text (day / 31)) (45 ∷ two_digits (day % 31 + 1)) (month_text_is_ascii (day / 31) h.0) (two_are_ascii (day % 31 + 1) (omega arith)))

pub days_are_utf8 : (last : ℕ) (bytes : List ℕ) → is_some (day_until last bytes) ≡ true → IsUtf8 bytes
days_are_utf8 last bytes h = by (day_until last bytes) refl h
  where
    by : (o : Option ℕ) → day_until last bytes ≡ o → is_some o ≡ true → IsUtf8 bytes
    by None e h = absurd (cc)
    by (Some day) e h = subst IsUtf8 (read_day_printed last day bytes e) (day_text_is_utf8 day (read_day_known last day bytes e).0)

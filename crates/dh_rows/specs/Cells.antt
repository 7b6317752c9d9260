-- Which values of a column are values of a record, and which value each of them is.
use Rattle.std.specs.Prelude.{◌≡◌, refl, ℕ, ℤ, pos, zero, suc, Bool, true, false, ◌&&◌, nat_eq, nat_le, Option, Some, None, is_some, unwrap_or, List, []}
use Rattle.std.proofs.Common.{ap}
use Rattle.std.specs.Str.{IsUtf8}
use Rattle.sqlite.specs.Values.{or_null}
use Rattle.sqlite_value.specs.declared.value.Value.{Value}
use Rattle.sqlite_value.specs.declared.value.Value.TheVariants.{Null, Int, Text}
use Rattle.dh_values.specs.Texts.{is_id, is_key, is_text}
use Rattle.dh_values.specs.declared.limits.TheConstants.{MOST_AMOUNT, MOST_FEE, MOST_NUMBER, MOST_PENCE, MOST_RENT}
use Rattle.dh_days.specs.Days.{day_of, day_text, due_day_of}
use Rattle.dh_days.specs.declared.limits.TheConstants.{FIRST_MONTH, LAST_ENTRY_MONTH, LAST_MONTH_OF_ENTRY_DAYS}
use Rattle.dh_days.proofs.ReadDays.{text_read_again}
use Rattle.dh_types.specs.declared.version.Version.{Version}
use Rattle.dh_types.specs.declared.version.Version.TheVariants.{First, Second}
use Rattle.dh_rows.specs.declared.limits.TheConstants.{MOST_COUNT}

-- ---- texts

-- UTF-8
abbrev pub IsTextCell : Value → Type 0
IsTextCell (Text bytes) = IsUtf8 bytes
IsTextCell _ = ⊥

-- a text that passes the test
unfoldable pub is_text_that : (List ℕ → Bool) → Value → Bool
is_text_that test (Text bytes) = test bytes
is_text_that test _ = false

abbrev pub text_in : Value → List ℕ
text_in (Text bytes) = bytes
text_in _ = []

abbrev pub is_id_cell : Value → Bool
is_id_cell v = is_text_that is_id v

abbrev pub is_key_cell : Value → Bool
is_key_cell v = is_text_that is_key v

-- a text of 1 to so many characters
abbrev pub is_text_cell : ℕ → Value → Bool
is_text_cell most v = is_text_that (is_text most) v

-- a text that is read as a value
unfoldable pub is_read_cell : {T : Type 0} → (List ℕ → Option T) → Value → Bool
is_read_cell read (Text bytes) = is_some (read bytes)
is_read_cell read _ = false

-- the value that the text is read as, and else this one
abbrev pub read_in : {T : Type 0} → (List ℕ → Option T) → T → Value → T
read_in read otherwise v = unwrap_or (read (text_in v)) otherwise

-- a day that lines know
abbrev pub is_day_cell : Value → Bool
is_day_cell v = is_read_cell day_of v

abbrev pub day_in : Value → ℕ
day_in v = read_in day_of 0 v

-- a day on which rent can fall due
abbrev pub is_due_day_cell : Value → Bool
is_due_day_cell v = is_read_cell due_day_of v

abbrev pub due_day_in : Value → ℕ
due_day_in v = read_in due_day_of 0 v

-- ---- numbers

abbrev pub is_in_range : ℕ → ℕ → ℤ → Bool
is_in_range low high (pos n) = nat_le low n && nat_le n high
is_in_range low high _ = false

-- a whole number from the first to the second
abbrev pub is_number_cell : ℕ → ℕ → Value → Bool
is_number_cell low high (Int n) = is_in_range low high n
is_number_cell low high _ = false

abbrev pub number_in : Value → ℕ
number_in (Int (pos n)) = n
number_in _ = 0

-- the number of a lease or of a receipt
abbrev pub is_named_number_cell : Value → Bool
is_named_number_cell v = is_number_cell 1 MOST_NUMBER v

-- a fee, in hundredths of a percent
abbrev pub is_fee_cell : Value → Bool
is_fee_cell v = is_number_cell 0 MOST_FEE v

-- a month that lines know, numbered 12 * year + month - 1
abbrev pub is_month_cell : Value → Bool
is_month_cell v = is_number_cell FIRST_MONTH LAST_ENTRY_MONTH v

-- a monthly rent, in pence
abbrev pub is_rent_cell : Value → Bool
is_rent_cell v = is_number_cell 1 MOST_RENT v

-- what a receipt takes, in pence
abbrev pub is_amount_cell : Value → Bool
is_amount_cell v = is_number_cell 1 MOST_AMOUNT v

-- money of any amount, in pence
abbrev pub is_pence_cell : Value → Bool
is_pence_cell v = is_number_cell 0 MOST_PENCE v

abbrev pub is_count_cell : Value → Bool
is_count_cell v = is_number_cell 0 MOST_COUNT v

-- no is 0, and yes is 1
abbrev pub is_flag_cell : Value → Bool
is_flag_cell v = is_number_cell 0 1 v

abbrev pub flag_number : Bool → ℕ
flag_number true = 1
flag_number false = 0

abbrev pub flag_in : Value → Bool
flag_in v = nat_eq (number_in v) 1

-- the version of the books
abbrev pub is_version_cell : Value → Bool
is_version_cell v = is_number_cell 1 2 v

abbrev pub version_number : Version → ℕ
version_number First = 1
version_number Second = 2

-- the version of this number, and else the second
abbrev pub version_of : ℕ → Version
version_of (suc zero) = First
version_of _ = Second

abbrev pub version_in : Value → Version
version_in v = version_of (number_in v)

-- ---- what may be absent

-- NULL, or a value that passes the test
abbrev pub is_optional : (Value → Bool) → Value → Bool
is_optional test Null = true
is_optional test v = test v

abbrev pub optional_text : Option (List ℕ) → Value
optional_text text = or_null Text text

abbrev pub optional_text_in : Value → Option (List ℕ)
optional_text_in (Text bytes) = Some bytes
optional_text_in _ = None

-- the greatest lease that was charged, and 0 where there is none. No lease has the number 0, so that has no value
abbrev pub through_value : Option ℕ → Value
through_value None = Int (pos 0)
through_value (Some zero) = Null
through_value (Some (suc n)) = Int (pos (suc n))

abbrev pub is_through_cell : Value → Bool
is_through_cell v = is_number_cell 0 MOST_NUMBER v

abbrev pub through_of : ℕ → Option ℕ
through_of zero = None
through_of (suc n) = Some (suc n)

abbrev pub through_in : Value → Option ℕ
through_in v = through_of (number_in v)

-- ---- read back

-- a day that passes as a text is read back from its text
pub day_back : (day : ℕ) → is_day_cell (Text (day_text day)) ≡ true → day_in (Text (day_text day)) ≡ day
unfolding is_read_cell
day_back day good = ap (λ o. unwrap_or o 0) (text_read_again LAST_MONTH_OF_ENTRY_DAYS day good)

pub due_day_back : (day : ℕ) → is_due_day_cell (Text (day_text day)) ≡ true → due_day_in (Text (day_text day)) ≡ day
unfolding is_read_cell
due_day_back day good = ap (λ o. unwrap_or o 0) (text_read_again LAST_ENTRY_MONTH day good)

pub flag_back : (flag : Bool) → flag_in (Int (pos (flag_number flag))) ≡ flag
flag_back true = refl
flag_back false = refl

pub version_back : (version : Version) → version_in (Int (pos (version_number version))) ≡ version
version_back First = refl
version_back Second = refl

pub optional_back : (text : Option (List ℕ)) → optional_text_in (optional_text text) ≡ text
optional_back None = refl
optional_back (Some bytes) = refl

pub through_back : (through : Option ℕ) → is_through_cell (through_value through) ≡ true → through_in (through_value through) ≡ through
through_back None good = refl
through_back (Some zero) good = absurd (cc)
through_back (Some (suc n)) good = refl

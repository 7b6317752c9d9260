-- The kinds of value that the columns of our tables hold, and what a comparison says of them.
use Rattle.std.specs.Prelude.{◌≡◌, refl, ℕ, pos, negsuc, nat_eq, ◌&&◌, Bool, true, false, List, Option, Some, None, IfSome, is_some, unwrap_or}
use Rattle.std.proofs.Common.{◌∙◌, ◌≤◌, ap, arith, sym}
use Rattle.std.proofs.lemmas.Bool.{and_parts}
use Rattle.std.proofs.lemmas.Bool.Decides.{nat_tests}
use Rattle.sqlite_value.specs.declared.value.Value.{Value}
use Rattle.sqlite_value.specs.declared.value.Value.TheVariants.{Null, Int, Real, Text, Blob}
use Rattle.sqlite_value.specs.declared.keys.Collation.TheVariants.{Binary}
use Rattle.sqlite_schema.specs.declared.schema.Kind.TheVariants as kind
use Rattle.sqlite_schema.specs.Rules.{equal}
use Rattle.sqlite_sql.specs.Ops.{binary, is_null}
use Rattle.sqlite_rules.specs.Cast.{cast}
use Rattle.dh_days.specs.Days.{IsEntryDay, day_of, day_text}
use Rattle.dh_days.specs.declared.limits.TheConstants.{LAST_MONTH_OF_ENTRY_DAYS}
use Rattle.dh_days.proofs.DayTexts.{printed_day_read}
use Rattle.dh_days.proofs.ReadDays.{read_day_printed}
use Rattle.dh_types.proofs.SameValues.{numbers, texts}
use Rattle.dh_types.specs.Records.{is_same_optional}
use Rattle.dh_model.specs.Checks.{is_same_text}
use Rattle.dh_rows.specs.Cells.{day_in, is_day_cell, is_number_cell, is_optional, is_read_cell}
use Rattle.dh_rows.specs.Cells.{is_text_that, number_in, optional_text, optional_text_in, text_in}
use Rattle.dh_sql.specs.CellTests.{Cell}
use Rattle.dh_sql.proofs.Casting.{cast_int, cast_null}
use Rattle.dh_sql.proofs.Running.{and_true}
use Rattle.dh_sql.proofs.Comparing.{alike, numbers_same, texts_same}

-- ---- what a value is that passes a test

pub is_text : (test : List ℕ → Bool) (v : Value) → is_text_that test v ≡ true → v ≡ Text (text_in v)
unfolding is_text_that
is_text test (Text t) h = refl
is_text test Null h = cc
is_text test (Int n) h = cc
is_text test (Real x) h = cc
is_text test (Blob b) h = cc

pub is_read_text : {T : Type 0} (read : List ℕ → Option T) (v : Value) → is_read_cell read v ≡ true → v ≡ Text (text_in v)
unfolding is_read_cell
is_read_text read (Text t) h = refl
is_read_text read Null h = cc
is_read_text read (Int n) h = cc
is_read_text read (Real x) h = cc
is_read_text read (Blob b) h = cc

pub is_number : (low high : ℕ) (v : Value) → is_number_cell low high v ≡ true → v ≡ Int (pos (number_in v))
is_number low high (Int (pos n)) h = refl
is_number low high (Int (negsuc n)) h = cc
is_number low high Null h = cc
is_number low high (Real x) h = cc
is_number low high (Text t) h = cc
is_number low high (Blob b) h = cc

-- ---- such a value is written as it is

pub text_suits : (v : Value) → v ≡ Text (text_in v) → cast kind.Text v ≡ v
text_suits (Text t) h = refl
text_suits Null h = refl
text_suits (Int n) h = cc
text_suits (Real x) h = cc
text_suits (Blob b) h = refl

pub number_suits : (low high : ℕ) (v : Value) → is_number_cell low high v ≡ true → cast kind.Integer v ≡ v
number_suits low high (Int n) h = cast_int n
number_suits low high Null h = cc
number_suits low high (Real x) h = cc
number_suits low high (Text t) h = cc
number_suits low high (Blob b) h = cc

pub optional_suits : (test : List ℕ → Bool) (v : Value) → is_optional (is_text_that test) v ≡ true → cast kind.Text v ≡ v
optional_suits test Null h = refl
optional_suits test (Text t) h = refl
optional_suits test (Int n) h = text_suits (Int n) (is_text test (Int n) h)
optional_suits test (Real x) h = text_suits (Real x) (is_text test (Real x) h)
optional_suits test (Blob b) h = refl

pub null_suits : (v : Value) → is_null v ≡ true → cast kind.Integer v ≡ v
null_suits Null h = cast_null
null_suits (Int n) h = cc
null_suits (Real x) h = cc
null_suits (Text t) h = cc
null_suits (Blob b) h = cc

-- ---- the kinds of cell

abbrev pub text_that : (List ℕ → Bool) → Cell
text_that test = record { kind = kind.Text; test = is_text_that test; suits = λ v h. text_suits v (is_text test v h) }

abbrev pub read_as : {T : Type 0} → (List ℕ → Option T) → Cell
read_as read = record { kind = kind.Text; test = is_read_cell read; suits = λ v h. text_suits v (is_read_text read v h) }

abbrev pub optional_text_that : (List ℕ → Bool) → Cell
optional_text_that test = record { kind = kind.Text; test = is_optional (is_text_that test); suits = optional_suits test }

abbrev pub number_from : ℕ → ℕ → Cell
number_from low high = record { kind = kind.Integer; test = is_number_cell low high; suits = number_suits low high }

-- the column of a key that is the rowid holds NULL
abbrev pub rowid_column : Cell
rowid_column = record { kind = kind.Integer; test = is_null; suits = null_suits }

-- ---- what SQL's = says

pub same_text : (v : Value) (bytes : List ℕ) → v ≡ Text (text_in v) → equal Binary v (Text bytes) ≡ is_same_text (text_in v) bytes
same_text v bytes is = ap (λ w. equal Binary w (Text bytes)) is ∙ texts_same (text_in v) bytes

pub same_number : (v : Value) (n : ℕ) → v ≡ Int (pos (number_in v)) → equal Binary v (Int (pos n)) ≡ nat_eq (number_in v) n
same_number v n is = ap (λ w. equal Binary w (Int (pos n))) is ∙ numbers_same (number_in v) n

known : (o : Option ℕ) → is_some o ≡ true → o ≡ Some (unwrap_or o 0)
known (Some n) h = refl
known None h = cc

some_is : (m n : ℕ) → Some m ≡ Some n → m ≡ n
some_is m n h = cc

same_day_text : (day : ℕ) → IsEntryDay day → (t : List ℕ) (n : ℕ) → day_of t ≡ Some n
    → equal Binary (Text t) (Text (day_text day)) ≡ nat_eq n day
same_day_text day is_day t n read =
    let printed : day_text n ≡ t = read_day_printed LAST_MONTH_OF_ENTRY_DAYS n t read in
    texts_same t (day_text day) ∙ alike _ _
    (λ same. (numbers n day).1 (some_is n day (sym read ∙ ap day_of ((texts t (day_text day)).0 same) ∙ printed_day_read day is_day)))
    (λ same. (texts t (day_text day)).1 (sym printed ∙ ap day_text ((numbers n day).0 same)))

-- days are compared by their texts
pub same_day : (v : Value) (day : ℕ) → IsEntryDay day → is_day_cell v ≡ true → equal Binary v (Text (day_text day)) ≡ nat_eq (day_in v) day
unfolding is_read_cell
same_day (Text t) day is_day h = same_day_text day is_day t (day_in (Text t)) (known (day_of t) h)
same_day Null day is_day h = cc
same_day (Int n) day is_day h = cc
same_day (Real x) day is_day h = cc
same_day (Blob b) day is_day h = cc

-- NULL is equal to nothing
null_equal : (bytes : List ℕ) → equal Binary Null (Text bytes) ≡ false
unfolding binary
null_equal bytes = refl

pub same_optional : (test : List ℕ → Bool) (v : Value) (bytes : List ℕ) → is_optional (is_text_that test) v ≡ true
    → equal Binary v (Text bytes) ≡ is_same_optional is_same_text (optional_text_in v) (Some bytes)
unfolding is_text_that
same_optional test Null bytes h = null_equal bytes
same_optional test (Text t) bytes h = texts_same t bytes
same_optional test (Int n) bytes h = cc
same_optional test (Real x) bytes h = cc
same_optional test (Blob b) bytes h = cc

-- ---- tests behind WHERE

pub pass_one : {a b : Bool} → a ≡ b → (a && true) ≡ b
pass_one {a = a} is = and_true a ∙ is

pub pass_both : {a b c d : Bool} → a ≡ c → b ≡ d → (a && (b && true)) ≡ (c && d)
pass_both {b = b} is_a is_b = λ i. is_a i && (and_true b ∙ is_b) i

-- what such a test says of the key of a row
pub tells_text : (found asked : List ℕ) {b : Bool} → b ≡ is_same_text found asked → (b ≡ true → found ≡ asked) × (found ≡ asked → b ≡ true)
tells_text found asked is = (λ h. (texts found asked).0 (sym is ∙ h), λ e. is ∙ (texts found asked).1 e)

pub tells_number : (found asked : ℕ) {b : Bool} → b ≡ nat_eq found asked → (b ≡ true → found ≡ asked) × (found ≡ asked → b ≡ true)
tells_number found asked is = (λ h. (numbers found asked).0 (sym is ∙ h), λ e. is ∙ (numbers found asked).1 e)

-- and so of two
pub tells_both : {A B : Type 0} {f x : A} {g y : B} {a b c : Bool} → (a ≡ true → f ≡ x) × (f ≡ x → a ≡ true)
    → (b ≡ true → g ≡ y) × (g ≡ y → b ≡ true)
    → c ≡ (a && b) → (c ≡ true → ◌≡◌ {A = A × B} (f, g) (x, y)) × (◌≡◌ {A = A × B} (f, g) (x, y) → c ≡ true)
tells_both {A = A} {B = B} {a = a} {b = b} one two is = (
  λ h.
      let parts = and_parts a b (sym is ∙ h) in
      let first = one.0 parts.0 in
      let second = two.0 parts.1 in
      λ i. (first i, second i),
  λ e. is ∙ both_hold a b (one.1 (ap (λ (p : A × B). p.0) e)) (two.1 (ap (λ (p : A × B). p.1) e)),
)
  where
    both_hold : (a b : Bool) → a ≡ true → b ≡ true → (a && b) ≡ true
    both_hold a b h k = rw (h, k) refl

-- ---- values that are given

pub in_range : (low high n : ℕ) → low ≤ n → n ≤ high → is_number_cell low high (Int (pos n)) ≡ true
in_range low high n from to = grind (arith, nat_tests)

pub to_limit : (high n : ℕ) → n ≤ high → is_number_cell 0 high (Int (pos n)) ≡ true
to_limit high n to = grind (arith, nat_tests)

pub text_passes : (test : List ℕ → Bool) (bytes : List ℕ) → test bytes ≡ true → is_text_that test (Text bytes) ≡ true
unfolding is_text_that
text_passes test bytes h = h

pub optional_passes : (test : List ℕ → Bool) (text : Option (List ℕ)) → IfSome text (λ bytes. test bytes ≡ true)
    → is_optional (is_text_that test) (optional_text text) ≡ true
optional_passes test None h = refl
optional_passes test (Some bytes) h = text_passes test bytes h

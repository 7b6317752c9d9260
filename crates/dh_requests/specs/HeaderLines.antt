-- What the header lines say of the body.
use Rattle.std.specs.Prelude.{ℕ, List, [], ◌∷◌, length, map, filter, nat_eq, nat_lt, nat_le, Bool, ◌&&◌, if◌then◌else◌}
use Rattle.std.specs.List.{list_all}
use Rattle.std.specs.Char.{to_ascii_lowercase, is_ascii_digit}
use Rattle.std.specs.Cmp.Lexicographic.{pointwise}
use Rattle.std.specs.Str.Parse.{digits_value}
use Rattle.dh_requests.specs.declared.limits.TheConstants.{BODY_BYTES}
use Rattle.dh_requests.specs.declared.header_lines.BodyLength.{BodyLength}
use Rattle.dh_requests.specs.declared.header_lines.BodyLength.TheVariants.{Absent, Invalid, TooLarge, Bytes}

-- the names are the same but for the case of ASCII letters
abbrev pub same_name : List ℕ → List ℕ → Bool
same_name a b = pointwise nat_eq (map to_ascii_lowercase a) (map to_ascii_lowercase b)

-- a header line: its name, and its value without the white space around it
abbrev pub HeaderLine : Type 0
HeaderLine = List ℕ × List ℕ

-- the values of the lines of this name
abbrev pub values_of : List ℕ → List HeaderLine → List (List ℕ)
values_of name lines = map (λ l. l.1) (filter (λ l. same_name l.0 name) lines)

abbrev pub is_number : List ℕ → Bool
is_number value = nat_lt 0 (length value) && list_all is_ascii_digit value

-- what one value says
abbrev pub length_of : List ℕ → BodyLength
length_of value =
    if is_number value then (if nat_le (digits_value 10 value) BODY_BYTES then Bytes (digits_value 10 value) else TooLarge) else Invalid

-- what the values of all Content-Length lines say
abbrev pub body_length : List (List ℕ) → BodyLength
body_length [] = Absent
body_length (value ∷ []) = length_of value
body_length (value ∷ more ∷ rest) = Invalid

-- what the lines so far say, with one more value
abbrev pub with_value : BodyLength → List ℕ → BodyLength
with_value Absent value = length_of value
with_value Invalid value = Invalid
with_value TooLarge value = Invalid
with_value (Bytes n) value = Invalid

-- Which texts are values.
use Rattle.std.specs.Prelude.{ℕ, Bool, ◌&&◌, ◌||◌, not, nat_le, nat_eq, List, length, slice_index}
use Rattle.std.specs.List.{list_all}
use Rattle.std.specs.Char.{is_ascii_uppercase, is_ascii_digit, is_ascii_alphanumeric}
use Rattle.std.specs.Str.{chars, is_utf8}

-- A-Z or 0-9
abbrev pub is_code_byte : ℕ → Bool
is_code_byte b = is_ascii_uppercase b || is_ascii_digit b

-- 1 to 8 of A-Z and 0-9, the first a letter
abbrev pub is_id : List ℕ → Bool
is_id bytes = nat_le 1 (length bytes) && nat_le (length bytes) 8 && is_ascii_uppercase (slice_index bytes 0) && list_all is_code_byte bytes

-- A-Z, a-z, 0-9 or a hyphen
abbrev pub is_key_byte : ℕ → Bool
is_key_byte b = is_ascii_alphanumeric b || nat_eq b 45

-- 1 to 40 of A-Z, a-z, 0-9 and hyphen
abbrev pub is_key : List ℕ → Bool
is_key bytes = nat_le 1 (length bytes) && nat_le (length bytes) 40 && list_all is_key_byte bytes

-- no control character
abbrev pub is_printable : ℕ → Bool
is_printable c = nat_le 32 c && not (nat_eq c 127)

-- the UTF-8 of 1 to so many characters, each printable
abbrev pub is_text : ℕ → List ℕ → Bool
is_text most bytes = is_utf8 bytes && nat_le 1 (length (chars bytes)) && nat_le (length (chars bytes)) most && list_all is_printable (chars bytes)

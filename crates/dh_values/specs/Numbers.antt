-- Numbers as digits spell them.
use Rattle.std.specs.Prelude.{ℕ, ◌+◌, ◌-◌, ◌*◌, Bool, ◌&&◌, ◌||◌, not, nat_le, nat_eq, if◌then◌else◌, Option, Some, None, List, [], ◌∷◌, length, slice_index}
use Rattle.std.specs.List.{list_all}
use Rattle.std.specs.Char.{is_ascii_digit}

-- the number that the digits spell after those of n
abbrev pub number_after : ℕ → List ℕ → ℕ
number_after n [] = n
number_after n (c ∷ cs) = number_after (10 * n + (c - 48)) cs

abbrev pub number : List ℕ → ℕ
number digits = number_after 0 digits

-- digits, the first no zero but in 0 itself
abbrev pub is_numeral : List ℕ → Bool
is_numeral text = nat_le 1 (length text) && (nat_eq (length text) 1 || not (nat_eq (slice_index text 0) 48)) && list_all is_ascii_digit text

-- the number that a text spells without a leading zero, but in 0 itself
abbrev pub numeral_of : List ℕ → Option ℕ
numeral_of text = if is_numeral text then Some (number text) else None

-- a number, where it lies from low to high
abbrev pub within : ℕ → ℕ → Option ℕ → Option ℕ
within low high None = None
within low high (Some n) = if nat_le low n && nat_le n high then Some n else None

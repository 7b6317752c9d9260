-- Money in pence, and the texts that spell it.
use Rattle.std.specs.Prelude.{ℕ, ◌+◌, ◌-◌, ◌*◌, ◌/◌, ◌%◌, ◌≤◌, Bool, ◌&&◌, nat_le, nat_eq, if◌then◌else◌, ℤ, pos, negsuc, suc, Option, Some, None, List, []}
use Rattle.std.specs.Prelude.{◌∷◌, ◌++◌, length, take, drop, slice_index}
use Rattle.std.specs.List.{list_all}
use Rattle.std.specs.Char.{is_ascii_digit}
use Rattle.std.specs.Fmt.{decimal}
use Rattle.dh_values.specs.Numbers.{number, within}
use Rattle.dh_values.specs.declared.limits.TheConstants.{MOST_AMOUNT, MOST_PENCE, MOST_RENT}

-- 1 to 6 digits
abbrev pub is_pounds : List ℕ → Bool
is_pounds digits = nat_le 1 (length digits) && nat_le (length digits) 6 && list_all is_ascii_digit digits

-- pounds, a point and two digits
abbrev pub has_pence : List ℕ → Bool
has_pence text =
    nat_le 4 (length text) && nat_eq (slice_index text (length text - 3)) 46
    && is_pounds (take (length text - 3) text) && list_all is_ascii_digit (drop (length text - 2) text)

-- the pence that a text spells: pounds, or pounds, a point and two digits
abbrev pub pence_of : List ℕ → Option ℕ
pence_of text =
    if is_pounds text then Some (100 * number text)
    else if has_pence text then Some (100 * number (take (length text - 3) text) + number (drop (length text - 2) text))
    else None

-- at least one digit, no other leading zero, a point, two digits
abbrev pub pence_text : ℕ → List ℕ
pence_text p = decimal (p / 100) ++ 46 ∷ (48 + p % 100 / 10) ∷ (48 + p % 100 % 10) ∷ []

-- a hyphen before what is owed the other way
abbrev pub money_text : ℤ → List ℕ
money_text (pos p) = pence_text p
money_text (negsuc n) = 45 ∷ pence_text (suc n)

-- at most 2^63 - 1, as a table keeps it
abbrev pub IsPence : ℕ → Type 0
IsPence p = p ≤ MOST_PENCE

-- a monthly rent
abbrev pub IsRent : ℕ → Type 0
IsRent p = (1 ≤ p) × (p ≤ MOST_RENT)

abbrev pub rent_of : List ℕ → Option ℕ
rent_of text = within 1 MOST_RENT (pence_of text)

-- what a receipt takes
abbrev pub IsAmount : ℕ → Type 0
IsAmount p = (1 ≤ p) × (p ≤ MOST_AMOUNT)

abbrev pub amount_of : List ℕ → Option ℕ
amount_of text = within 1 MOST_AMOUNT (pence_of text)

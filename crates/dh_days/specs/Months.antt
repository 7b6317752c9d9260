-- Months by number: 12 * year + month - 1.
use Rattle.std.specs.Prelude.{ℕ, ◌+◌, ◌-◌, ◌*◌, ◌/◌, ◌%◌, ◌≤◌, Bool, ◌&&◌, nat_le, nat_eq, if◌then◌else◌, Option, Some, None, List, [], ◌∷◌, ◌++◌, length}
use Rattle.std.specs.Prelude.{take, drop, slice_index}
use Rattle.std.specs.List.{list_all}
use Rattle.std.specs.Char.{is_ascii_digit}
use Rattle.std.specs.Fmt.{decimal}
use Rattle.dh_values.specs.Numbers.{number}
use Rattle.dh_days.specs.declared.limits.TheConstants.{FIRST_MONTH, LAST_ENTRY_MONTH, LAST_MONTH}

-- 2000-01 to 9999-12
abbrev pub IsMonth : ℕ → Type 0
IsMonth n = (FIRST_MONTH ≤ n) × (n ≤ LAST_MONTH)

-- a month that lines know, 2000-01 to 2200-12
abbrev pub IsEntryMonth : ℕ → Type 0
IsEntryMonth n = (FIRST_MONTH ≤ n) × (n ≤ LAST_ENTRY_MONTH)

-- the form YYYY-MM
abbrev pub has_month_form : List ℕ → Bool
has_month_form text = nat_eq (length text) 7 && list_all is_ascii_digit (take 4 text) && nat_eq (slice_index text 4) 45 && list_all is_ascii_digit (drop 5 text)

-- the month that a text spells, 2000-01 to 2200-12
abbrev pub month_of : List ℕ → Option ℕ
month_of text =
    let year = number (take 4 text) in
    let month = number (drop 5 text) in
    if has_month_form text && nat_le 2000 year && nat_le year 2200 && nat_le 1 month && nat_le month 12 then Some (12 * year + month - 1) else None

-- a number below 100 as two digits
abbrev pub two_digits : ℕ → List ℕ
two_digits n = (48 + n / 10) ∷ (48 + n % 10) ∷ []

-- YYYY-MM
abbrev pub month_text : ℕ → List ℕ
month_text n = decimal (n / 12) ++ 45 ∷ two_digits (n % 12 + 1)

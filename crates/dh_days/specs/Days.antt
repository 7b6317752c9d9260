-- Days by place. A month has 31 places, of which those past its last day stay empty: 31 * (the month's number) + (the day's number in the month) - 1.
use Rattle.std.specs.Prelude.{ℕ, ◌+◌, ◌-◌, ◌*◌, ◌/◌, ◌%◌, ◌≤◌, min, Bool, not, ◌&&◌, ◌||◌, ◌==◌, nat_le, nat_eq, if◌then◌else◌, Option, Some, None}
use Rattle.std.specs.Prelude.{option_and_then, List, ◌∷◌, ◌++◌, length, take, drop, slice_index}
use Rattle.std.specs.List.{list_all}
use Rattle.std.specs.Char.{is_ascii_digit}
use Rattle.dh_values.specs.Numbers.{number}
use Rattle.dh_days.specs.declared.limits.TheConstants.{LAST_ENTRY_MONTH, LAST_MONTH_OF_ENTRY_DAYS}
use Rattle.dh_days.specs.Months.{IsMonth, month_of, month_text, two_digits}

-- every fourth year, but of the centuries only every fourth
abbrev pub is_leap_year : ℕ → Bool
is_leap_year year = (year % 4 == 0) && (not (year % 100 == 0) || (year % 400 == 0))

-- how many days a month of a year has, the month counted from 1: thirty have April, June, September and November
abbrev pub days_in_month_of : ℕ → ℕ → ℕ
days_in_month_of year month =
    if month == 2 then (if is_leap_year year then 29 else 28)
    else (if (month == 4) || (month == 6) || (month == 9) || (month == 11) then 30 else 31)

-- how many days the month of this number has
abbrev pub days_in : ℕ → ℕ
days_in month = days_in_month_of (month / 12) (month % 12 + 1)

-- the number of the day's month
abbrev pub month_of_day : ℕ → ℕ
month_of_day day = day / 31

-- which day of its month it is, from 1
abbrev pub number_in_month : ℕ → ℕ
number_in_month day = day % 31 + 1

-- the day of this number in a month
abbrev pub day_at : ℕ → ℕ → ℕ
day_at month number = 31 * month + number - 1

-- a day of the calendar from 2000-01-01 to 9999-12-31
abbrev pub IsDay : ℕ → Type 0
IsDay day = IsMonth (month_of_day day) × (number_in_month day ≤ days_in (month_of_day day))

-- a day that lines know, 2000-01-01 to 2199-12-31
abbrev pub IsEntryDay : ℕ → Type 0
IsEntryDay day = IsDay day × (month_of_day day ≤ LAST_MONTH_OF_ENTRY_DAYS)

-- the form YYYY-MM-DD, where YYYY-MM is a matter of the month
abbrev pub has_day_form : List ℕ → Bool
has_day_form text = nat_eq (length text) 10 && nat_eq (slice_index text 7) 45 && list_all is_ascii_digit (drop 8 text)

-- the day of this number in a month, if it is no later than the last
abbrev pub day_at_until : ℕ → ℕ → ℕ → Option ℕ
day_at_until last number month = if nat_le month last && nat_le 1 number && nat_le number (days_in month) then Some (day_at month number) else None

-- the day that a text YYYY-MM-DD spells, from 2000-01-01 on, in a month up to the last, which is 2200-12 at most
abbrev pub day_until : ℕ → List ℕ → Option ℕ
day_until last text = if has_day_form text then option_and_then (day_at_until last (number (drop 8 text))) (month_of (take 7 text)) else None

-- the day that a text YYYY-MM-DD spells, 2000-01-01 to 2199-12-31
abbrev pub day_of : List ℕ → Option ℕ
day_of text = day_until LAST_MONTH_OF_ENTRY_DAYS text

-- the day that a text YYYY-MM-DD spells, 2000-01-01 to 2200-12-31: rent falls due on no other
abbrev pub due_day_of : List ℕ → Option ℕ
due_day_of text = day_until LAST_ENTRY_MONTH text

-- YYYY-MM-DD
abbrev pub day_text : ℕ → List ℕ
day_text day = month_text (month_of_day day) ++ 45 ∷ two_digits (number_in_month day)

-- the day with the same number in the month n months later, or the last day of that month where it is shorter
abbrev pub plus_months : ℕ → ℕ → ℕ
plus_months day n =
    let month = month_of_day day + n in
    day_at month (min (number_in_month day) (days_in month))

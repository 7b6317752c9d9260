-- Days as the calendar library has them.
use Rattle.std.specs.Prelude.{◌≡◌, ℕ, ◌+◌, ◌/◌, ◌%◌, pos}
use Rattle.jiff_core.specs.declared.civil.date.Date.{Date}
use Rattle.dh_days.specs.Days.{month_of_day, number_in_month}

-- the day's year, month and number
abbrev pub IsDateOf : ℕ → Date → Type 0
IsDateOf day date =
    (date.year ≡ pos (month_of_day day / 12)) × (date.month ≡ month_of_day day % 12 + 1) × (date.day ≡ number_in_month day)

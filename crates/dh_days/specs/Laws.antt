-- What the definitions owe each other.
use Rattle.std.specs.Prelude.{ℕ, ◌≡◌, ◌+◌, ◌<◌, ◌≤◌, true, Some, is_some, List}
use Rattle.std.specs.Ordering.{nat_cmp}
use Rattle.std.specs.Cmp.Lexicographic.{slice_cmp}
use Rattle.dh_days.specs.declared.limits.TheConstants.{LAST_ENTRY_MONTH, LAST_MONTH}
use Rattle.dh_days.specs.Months.{IsMonth, IsEntryMonth, month_of, month_text}
use Rattle.dh_days.specs.Days.{IsDay, IsEntryDay, day_of, day_text, day_until, due_day_of, month_of_day, plus_months}

-- a month that lines know, printed and read, is itself
abbrev pub PrintedMonthsAreRead : Type 0
PrintedMonthsAreRead = (n : ℕ) → IsEntryMonth n → month_of (month_text n) ≡ Some n

-- months that print as one are one
abbrev pub MonthsPrintApart : Type 0
MonthsPrintApart = (m n : ℕ) → IsMonth m → IsMonth n → month_text m ≡ month_text n → m ≡ n

-- the texts of months are in the order of the months
abbrev pub MonthTextsAreInOrder : Type 0
MonthTextsAreInOrder = (m n : ℕ) → IsMonth m → IsMonth n → slice_cmp nat_cmp (month_text m) (month_text n) ≡ nat_cmp m n

-- a day that lines know, printed and read, is itself
abbrev pub PrintedDaysAreRead : Type 0
PrintedDaysAreRead = (d : ℕ) → IsEntryDay d → day_of (day_text d) ≡ Some d

-- a day on which rent can fall due, printed and read, is itself
abbrev pub PrintedDueDaysAreRead : Type 0
PrintedDueDaysAreRead = (d : ℕ) → IsDay d → month_of_day d ≤ LAST_ENTRY_MONTH → due_day_of (day_text d) ≡ Some d

-- a day that is read, in a month up to any last, prints as it was read
abbrev pub ReadDaysArePrinted : Type 0
ReadDaysArePrinted = (last day : ℕ) (text : List ℕ) → day_until last text ≡ Some day → day_text day ≡ text

-- where the text that a number prints as is read, it is read as that number
abbrev pub DayTextsAreOfOne : Type 0
DayTextsAreOfOne = (last day : ℕ) → is_some (day_until last (day_text day)) ≡ true → day_until last (day_text day) ≡ Some day

-- days that print as one are one
abbrev pub DaysPrintApart : Type 0
DaysPrintApart = (d e : ℕ) → IsDay d → IsDay e → day_text d ≡ day_text e → d ≡ e

-- the texts of days are in the order of the days
abbrev pub DayTextsAreInOrder : Type 0
DayTextsAreInOrder = (d e : ℕ) → IsDay d → IsDay e → slice_cmp nat_cmp (day_text d) (day_text e) ≡ nat_cmp d e

-- a day of the calendar some months later is one
abbrev pub MonthsLaterIsDay : Type 0
MonthsLaterIsDay = (d n : ℕ) → IsDay d → month_of_day d + n ≤ LAST_MONTH → IsDay (plus_months d n)

-- no month later is the day itself
abbrev pub NoMonthLater : Type 0
NoMonthLater = (d : ℕ) → IsDay d → plus_months d 0 ≡ d

-- n months later the month is the one n later
abbrev pub MonthOfMonthsLater : Type 0
MonthOfMonthsLater = (d n : ℕ) → month_of_day (plus_months d n) ≡ month_of_day d + n

-- more months later is a later day
abbrev pub MoreMonthsLater : Type 0
MoreMonthsLater = (d m n : ℕ) → m < n → plus_months d m < plus_months d n

-- as many months later, days keep their order, though two may meet
abbrev pub MonthsLaterInOrder : Type 0
MonthsLaterInOrder = (d e n : ℕ) → d ≤ e → plus_months d n ≤ plus_months e n

-- where a day lies to the day n months after a start, by their months
pub record LiesByMonth (start n day : ℕ) : Type 0 where
  pub from : plus_months start n ≤ day → month_of_day start + n ≤ month_of_day day
  pub until : day < plus_months start n → month_of_day day ≤ month_of_day start + n
  pub before : month_of_day day < month_of_day start + n → day < plus_months start n
  pub after : month_of_day start + n < month_of_day day → plus_months start n < day

abbrev pub DaysLieByMonth : Type 0
DaysLieByMonth = (start n day : ℕ) → LiesByMonth start n day

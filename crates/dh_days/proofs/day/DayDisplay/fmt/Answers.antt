use Rattle.std.proofs.Common.{◌≡◌, ℕ, ◌<◌, ◌/◌, ◌%◌, ◌++◌, ◌∷◌, List, arith, refl, subst}
use Rattle.std.specs.Fmt.{decimal, HasWritten}
use Rattle.std.proofs.lemmas.Fmt.{decimal_digit}
use Rattle.dh_days.specs.Months.{month_text}
use Rattle.dh_days.specs.Days.{day_text, month_of_day, number_in_month}
use Rattle.dh_days.proofs.day.DayDisplay.fmt.Goals as goal

shown : (day month number : ℕ) → month ≡ month_of_day day → number ≡ number_in_month day
    → month_text month ++ 45 ∷ (decimal (number / 10) ++ decimal (number % 10)) ≡ day_text day
shown day month number m n =
    let below : number < 32 = omega arith in
    rw (decimal_digit (number / 10) (omega arith), decimal_digit (number % 10) (omega arith), m, n) refl

pub returns-clause-writes : goal.returns-clause-writes
returns-clause-writes g c plain ok =
    subst (λ (t : List ℕ). HasWritten g.W.Write.write_str_gives c.args.f.now t c.write.new.self)
    (shown c.args.self.now c.month.result c.number_in_month-number.result c.month.ensures.value c.number_in_month-number.ensures)
    (c.write.ensures.writes plain ok)

use Rattle.std.proofs.Common.{◌≡◌, ℕ, ◌+◌, ◌/◌, ◌%◌, ◌++◌, ◌∷◌, [], List, arith, subst}
use Rattle.std.specs.Fmt.{decimal, HasWritten}
use Rattle.std.proofs.lemmas.Fmt.{decimal_digit}
use Rattle.dh_days.specs.Months.{month_text}
use Rattle.dh_days.proofs.month.MonthDisplay.fmt.Goals as goal

shown : (n : ℕ) → decimal (n / 12) ++ ((45 ∷ []) ++ (decimal ((n % 12 + 1) / 10) ++ decimal ((n % 12 + 1) % 10))) ≡ month_text n
shown n = rw (decimal_digit ((n % 12 + 1) / 10) (omega arith), decimal_digit ((n % 12 + 1) % 10) (omega arith))

pub returns-clause-writes : goal.returns-clause-writes
returns-clause-writes g c plain ok =
    let written = subst (λ (t : List ℕ). HasWritten g.W.Write.write_str_gives c.args.f.now t c.write.new.self) (shown c.self.inside.number)
    (c.write.ensures.writes plain ok) in
    rw (← c.self.view_is) written

-- Texts of money and of days, by their parts.
use Rattle.std.proofs.Common.{◌≡◌, ◌∙◌, ℕ, ◌+◌, ◌/◌, ◌%◌, ◌<◌, true, false, List, [], ◌∷◌, ◌++◌, ℤ, pos, negsuc, arith, ap, append_assoc}
use Rattle.std.specs.Fmt.{decimal}
use Rattle.std.proofs.lemmas.Fmt.{decimal_digit}
use Rattle.std.proofs.lemmas.Int.{ints}
use lib.IntN.{nat_abs}
use lib.Signed.{lt_z}
use Rattle.dh_values.specs.Money.{money_text, pence_text}
use Rattle.dh_days.specs.Months.{two_digits}

pub two_digits_put : (text mark : List ℕ) (n : ℕ) → n < 100
    → text ++ mark ++ decimal (n / 10) ++ decimal (n % 10) ≡ text ++ (mark ++ two_digits n)
two_digits_put text mark n h =
    rw (decimal_digit (n / 10) (omega arith), decimal_digit (n % 10) (omega arith))
    (append_assoc (text ++ mark) ((48 + n / 10) ∷ []) ((48 + n % 10) ∷ []) ∙ append_assoc text mark (two_digits n))

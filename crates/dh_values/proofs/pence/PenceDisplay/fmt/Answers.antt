use Rattle.std.proofs.Common.{List, ℕ, subst}
use Rattle.std.specs.Fmt.{HasWritten}
use Rattle.dh_values.proofs.MoneyTexts.{pence_shown}
use Rattle.dh_values.proofs.pence.PenceDisplay.fmt.Goals as goal

pub returns-clause-writes : goal.returns-clause-writes
returns-clause-writes g c plain ok =
    let written = subst (λ (t : List ℕ). HasWritten g.W.Write.write_str_gives c.args.f.now t c.write.new.self) (pence_shown c.self.inside.pence)
    (c.write.ensures.writes plain ok) in
    rw (← c.self.view_is) written

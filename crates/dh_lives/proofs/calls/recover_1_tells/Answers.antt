use Rattle.std.proofs.lemmas.Result.{MatchResult-weaker}
use Rattle.dh_lives.proofs.Reopened.{both}
use Rattle.dh_lives.proofs.calls.recover_1_tells.Goals as goal

pub returns-clause-cut : goal.returns-clause-cut
returns-clause-cut g c =
    let r = c.recover_1.result in
    MatchResult-weaker r (both r _ _ _ _ c.recover_1.ensures.crash c.recover_1.ensures.halted)
    (λ a it. tt) (λ e it. record { forward = it.0; halted = it.1.resting })

pub returns-clause-recovered : goal.returns-clause-recovered
returns-clause-recovered g c =
    let r = c.recover_1.result in
    MatchResult-weaker r (both r _ _ _ _ c.recover_1.ensures.recovered c.recover_1.ensures.left)
    (λ h it. record { said = λ clean. (it.0 clean).1; left = it.1 }) (λ e it. tt)

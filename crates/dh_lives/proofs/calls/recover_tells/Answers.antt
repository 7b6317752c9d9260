use Rattle.std.proofs.lemmas.Result.{MatchResult-weaker}
use Rattle.dh_lives.proofs.Reopened.{both}
use Rattle.dh_lives.proofs.calls.recover_tells.Goals as goal

pub returns-clause-cut : goal.returns-clause-cut
returns-clause-cut g c =
    let r = c.recover.result in
    MatchResult-weaker r (both r _ _ _ _ c.recover.ensures.crash c.recover.ensures.halted)
    (λ a it. tt) (λ e it. record { forward = it.0; halted = it.1.resting })

pub returns-clause-recovered : goal.returns-clause-recovered
returns-clause-recovered g c =
    let r = c.recover.result in
    MatchResult-weaker r (both r _ _ _ _ c.recover.ensures.recovered c.recover.ensures.left)
    (λ a it. (it.0.0, record { said = it.0.1; left = it.1 })) (λ e it. tt)

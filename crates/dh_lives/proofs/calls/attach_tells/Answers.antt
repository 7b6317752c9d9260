use Rattle.std.proofs.lemmas.Result.{MatchResult-weaker}
use Rattle.dh_lives.proofs.Reopened.{both}
use Rattle.dh_lives.proofs.calls.attach_tells.Goals as goal

pub returns-clause-attached : goal.returns-clause-attached
returns-clause-attached g c =
    let r = c.attach.result in
    MatchResult-weaker r (both r _ _ _ _ c.attach.ensures.attached c.attach.ensures.left) (λ a it. (it.0.0, record { said = it.0.1; left = it.1 })) (λ e it. tt)

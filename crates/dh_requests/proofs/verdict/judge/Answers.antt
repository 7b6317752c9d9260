use Rattle.std.proofs.Common.{subst, sym}
use Rattle.std.proofs.lemmas.Result.{IfOk-weaker}
use Rattle.dh_requests.specs.Targets.{IsTarget}
use Rattle.dh_requests.proofs.Orders.{found, not_found}
use Rattle.dh_requests.proofs.verdict.judge.Goals as goal

pub returns-in-Some-of-clause-asks : goal.returns-in-Some-of-clause-asks
returns-in-Some-of-clause-asks g c h at =
    let named = c.target_of-target.ensures h at in
    IfOk-weaker c.judge_route.result _ _
    (λ it x. found h (c.in-None.ensures h at) c.in-Some-of.route (subst (IsTarget c.in-Some-of.route) named c.in-Some-of.ensures.found) it _ _ x)
    (c.judge_route.ensures.asks h at named)

pub returns-in-None-of-clause-asks : goal.returns-in-None-of-clause-asks
returns-in-None-of-clause-asks g c h at =
    not_found h (c.in-None.ensures h at) (λ any x. c.in-None-of.ensures.none any (subst (IsTarget any) (sym (c.target_of-target.ensures h at)) x)) _ _

pub returns-in-Some-of-clause-memory : goal.returns-in-Some-of-clause-memory
returns-in-Some-of-clause-memory g c wanted h at =
    let named = c.target_of-target.ensures h at in (
      sym (c.in-None.ensures h at),
      (c.in-Some-of.route, subst (IsTarget c.in-Some-of.route) named c.in-Some-of.ensures.found, c.judge_route.ensures.memory wanted h at named),
    )

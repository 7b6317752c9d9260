use Rattle.std.proofs.lemmas.Result.{IfOk-weaker}
use Rattle.dh_rules.proofs.MovingRuns.{Moves, interrupted_so_far}
use Rattle.dh_rules.proofs.recoveries.recovery_interrupted.Goals as goal

pub returns-clause-happens : goal.returns-clause-happens
returns-clause-happens c =
    IfOk-weaker c.moved.result (λ after. Moves c.args.before c.args.reach after) _
    (λ after moves. interrupted_so_far c.args.before after c.args.reach moves) c.moved.ensures

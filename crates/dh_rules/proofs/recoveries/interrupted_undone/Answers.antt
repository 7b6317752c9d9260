use Rattle.std.proofs.lemmas.Result.{IfOk-weaker}
use Rattle.dh_rules.proofs.MovingRuns.{Moves, post_cut}
use Rattle.dh_rules.proofs.recoveries.interrupted_undone.Goals as goal

pub returns-in_ok-far-in-Post-clause-happens : goal.returns-in_ok-far-in-Post-clause-happens
returns-in_ok-far-in-Post-clause-happens c =
    let before = c.args.before in
    let far = c.in_ok-far-in-Post.far in
    IfOk-weaker c.moved.result (λ after. Moves before far after) _
    (λ after moves order. (post_cut before after c.args.command.now c.in-Post.count c.args.reach far c.in-Post.is c.in_ok-far-in-Post.ensures moves order).0)
    c.moved.ensures

pub returns-in_ok-far-in-Post-clause-run : goal.returns-in_ok-far-in-Post-clause-run
returns-in_ok-far-in-Post-clause-run c =
    let before = c.args.before in
    let far = c.in_ok-far-in-Post.far in
    IfOk-weaker c.moved.result (λ after. Moves before far after) _
    (λ after moves order. (post_cut before after c.args.command.now c.in-Post.count c.args.reach far c.in-Post.is c.in_ok-far-in-Post.ensures moves order).1)
    c.moved.ensures

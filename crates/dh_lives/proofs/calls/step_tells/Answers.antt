use Rattle.dh_lives.proofs.Unchanged.{step_stays}
use Rattle.dh_lives.proofs.calls.step_tells.Goals as goal

pub returns-clause-stays : goal.returns-clause-stays
returns-clause-stays g c clean sound =
    step_stays g.S.Store c.nothing_new_leaves_the_tables.ensures c.args.agency.now c.step.new.self c.args.command.now c.step.result sound
    (c.step.ensures.said clean) (c.step.ensures.left clean)

use Rattle.sqlite.specs.Held.{state}
use Rattle.dh_model.specs.Kinds.{Runs}
use Rattle.dh_runs.proofs.ClosedRun.{run_there, sum_put}
use Rattle.dh_runs.proofs.run_end.ClosingSumPut.put.Goals as goal

pub update-requires-clause-kept : goal.update-requires-clause-kept
update-requires-clause-kept g c clean = ((c.requires.writing clean).in_order.tables Runs tt).kept

pub update-requires-clause-apart : goal.update-requires-clause-apart
update-requires-clause-apart g c clean = ((c.requires.writing clean).in_order.tables Runs tt).apart

pub update-requires-clause-there : goal.update-requires-clause-there
update-requires-clause-there g c clean =
    let old = state g.S.Store c.args.tx.now.conn.now in
    let it = run_there old old c.args.self.now.sum.now c.requires.room clean in
    (it.0, it.1)

pub returns-clause-puts : goal.returns-clause-puts
returns-clause-puts g c =
    let call = c.update.ensures in
    sum_put (state g.S.Store c.args.tx.now.conn.now) (state g.S.Store c.update.new.tx.conn.now) c.args.self.now.sum.now c.requires.room c.update.result
    c.requires.writing call.shown call.amended call.undone call.crash

use Rattle.sqlite.specs.Held.{state}
use Rattle.dh_runs.proofs.Stages.{Planned}
use Rattle.dh_runs.proofs.batches.post_planned.Given as goal

-- the tables are those of so many batches of the plan
abbrev pub invariant-loop-rows : goal.invariant-loop-rows
invariant-loop-rows g l = Planned (state g.S.Store l.fn.conn) (state g.S.Store l.conn) l.fn.plan l.rows-index

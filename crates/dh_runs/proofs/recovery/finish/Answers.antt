use Rattle.sqlite.specs.Held.{state}
use Rattle.dh_schema.specs.Store.{tables}
use Rattle.dh_runs.specs.Outcomes.{IsMidRecovery}
use Rattle.dh_runs.proofs.Along.{leaves_weaker}
use Rattle.dh_runs.proofs.Carried.{mid_of_part}
use Rattle.dh_runs.proofs.recovery.finish.Goals as goal

pub returns-in_err-post_some-clause-crash : goal.returns-in_err-post_some-clause-crash
returns-in_err-post_some-clause-crash g c clean =
    let old = state g.S.Store c.args.conn.now in
    leaves_weaker (state g.S.Store c.post_some.new.conn) _ (IsMidRecovery (tables old)) (mid_of_part _ (tables old)) (c.post_some.ensures.crash clean)

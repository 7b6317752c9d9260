use Rattle.std.proofs.Common.{◌∙◌, ap, arith}
use Rattle.sqlite.specs.State.{HasCleanDisk}
use Rattle.sqlite.specs.Held.{state}
use Rattle.dh_laws.specs.Looks.{unless_closed}
use Rattle.dh_schema.proofs.LastRun.{last_is_open}
use Rattle.dh_schema.proofs.looks.rows.find_open_run.Goals as goal

pub returns-clause-found : goal.returns-clause-found
returns-clause-found g c clean =
    let old = state g.S.Store c.args.conn.now in
    let early : HasCleanDisk old = omega (arith, c.last_run.ensures.reads.crash.clean, clean) in
    let found = c.in_ok-run.ensures.found clean in
    c.unless_closed.ensures ∙ ap unless_closed found ∙ last_is_open old.now.trees (c.requires early).0.sound

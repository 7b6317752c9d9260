use Rattle.std.proofs.Common.{arith}
use Rattle.sqlite.specs.State.{HasCleanDisk}
use Rattle.sqlite.specs.Held.{state}
use Rattle.dh_schema.proofs.Crashing.{unchanged_leaves}
use Rattle.dh_store.proofs.verdicts.asked.ask.Goals as goal

pub returns-clause-crash : goal.returns-clause-crash
returns-clause-crash g c clean =
    let old = state g.S.Store c.args.conn.now in
    let new = state g.S.Store c.ask_tables.new.conn in
    let early : HasCleanDisk old = omega (arith, c.ask_tables.ensures.reads.crash.clean, clean) in
    unchanged_leaves old new (g.met.S.Store.settled c.args.conn.now.store) (c.requires early) clean c.ask_tables.ensures.reads.crash

pub returns-clause-was_clean : goal.returns-clause-was_clean
returns-clause-was_clean g c = c.ask_tables.ensures.reads.crash.clean

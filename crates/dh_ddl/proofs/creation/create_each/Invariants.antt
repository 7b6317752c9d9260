use Rattle.std.proofs.Common.{◌≡◌}
use Rattle.sqlite.specs.Held.{state}
use Rattle.dh_ddl.proofs.Going.{IsAt}
use Rattle.dh_ddl.proofs.creation.create_each.Given as goal

abbrev pub invariant-loop-text : goal.invariant-loop-text
invariant-loop-text g l =
    (l.tx.conn.ghost_name ≡ l.fn.tx.conn.ghost_name)
    × IsAt l.fn.texts l.text-index (state g.S.Store l.fn.tx.conn.now) (state g.S.Store l.tx.conn.now)

use Rattle.std.proofs.Common.{◌≡◌, ◌≤◌, drop, length, Ok}
use Rattle.sqlite.specs.Held.{state}
use Rattle.dh_schema.specs.Putting.{TurnsBooks}
use Rattle.dh_runs.specs.Migrated.{with_no_fees}
use Rattle.dh_runs.proofs.second_version.put_no_fees.Given as goal

abbrev pub invariant-loop-left : goal.invariant-loop-left
invariant-loop-left g l = record {
  same_reference : l.tx.conn.ghost_name ≡ l.fn.tx.conn.ghost_name;
  within : l.left ≤ length l.parts;
  puts : TurnsBooks (with_no_fees (drop l.left l.parts)) (Ok tt) (state g.S.Store l.fn.tx.conn.now) (state g.S.Store l.tx.conn.now);
}

use Rattle.std.proofs.Common.{◌≡◌, take, Ok}
use Rattle.sqlite.specs.Held.{state}
use Rattle.dh_schema.specs.Putting.{TurnsBooks}
use Rattle.dh_runs.proofs.EachCharge.{with_each}
use Rattle.dh_runs.proofs.rows.put_each_charge.Given as goal

abbrev pub invariant-loop-charge : goal.invariant-loop-charge
invariant-loop-charge g l = record {
  same_reference : l.tx.conn.ghost_name ≡ l.fn.tx.conn.ghost_name;
  puts : TurnsBooks (with_each (take l.charge-index l.charges)) (Ok tt) (state g.S.Store l.fn.tx.conn.now) (state g.S.Store l.tx.conn.now);
}

use Rattle.std.proofs.Common.{◌≡◌, ◌≤◌, All, Ok, length}
use Rattle.sqlite.specs.State.{HasCleanDisk}
use Rattle.sqlite.specs.Held.{state}
use Rattle.dh_days.specs.Days.{month_of_day}
use Rattle.dh_days.specs.declared.limits.TheConstants.{LAST_ENTRY_MONTH}
use Rattle.dh_model.specs.Runs.{charge_key}
use Rattle.dh_sql.specs.Changes.{AreNew}
use Rattle.dh_schema.specs.Putting.{Puts}
use Rattle.dh_schema.specs.Store.{tables}
use Rattle.dh_runs.specs.Putting.{with_charges}
use Rattle.dh_runs.proofs.rows.put_charges.Given as goal

-- what is left is still to be put, which then makes the books with all
abbrev pub invariant-loop-left : goal.invariant-loop-left
invariant-loop-left g l = record {
  same_reference : l.tx.conn.ghost_name ≡ l.fn.tx.conn.ghost_name;
  puts : Puts (tables (state g.S.Store l.tx.conn.now)).books (Ok tt) (state g.S.Store l.fn.tx.conn.now) (state g.S.Store l.tx.conn.now);
  new : HasCleanDisk (state g.S.Store l.tx.conn.now) → AreNew charge_key l.left (tables (state g.S.Store l.tx.conn.now)).books.charges;
  in_time : All (λ charge. month_of_day charge.day ≤ LAST_ENTRY_MONTH) l.left;
  goes : HasCleanDisk (state g.S.Store l.tx.conn.now) → with_charges l.left (tables (state g.S.Store l.tx.conn.now)).books
      ≡ with_charges l.charges (tables (state g.S.Store l.fn.tx.conn.now)).books;
}

abbrev pub decreases-loop-left : goal.decreases-loop-left
decreases-loop-left g l = length l.left

use Rattle.std.proofs.Common.{List, IfOk, subst}
use Rattle.sqlite_value.specs.Order.{Row}
use Rattle.sqlite.specs.Held.{state}
use Rattle.dh_tables.specs.MetaTable.{AreFound, meta_rows}
use Rattle.dh_tables.proofs.MetaChanges.{found_before}
use Rattle.dh_tables.proofs.meta.find_meta.Goals as goal

pub returns-clause-found : goal.returns-clause-found
returns-clause-found g c clean =
    let rows = meta_rows (state g.S.Store c.args.conn.now).now.trees in
    let read = subst (λ (shown : List Row). IfOk c.only_months.result (AreFound shown)) c.deref.ensures.value c.only_months.ensures in
    found_before c.only_months.result rows c.in_ok-rows.rows.items (c.in_ok-rows.ensures.rows clean) read

use Rattle.std.proofs.Common.{◌≡◌, List, IfOk, arith, nat_cmp, subst, sym}
use Rattle.sqlite_value.specs.Order.{Row}
use Rattle.sqlite.specs.State.{HasCleanDisk}
use Rattle.sqlite.specs.Held.{state}
use Rattle.dh_sql.specs.Shape.{rows_of}
use Rattle.dh_tables.specs.Questions.{AreOneAtMost, only_record}
use Rattle.dh_tables.specs.ReceiptTable.{receipt_shape}
use Rattle.dh_tables.proofs.Corrupt.{greatest_one}
use Rattle.dh_tables.proofs.LastReceipt.{last_ok}
use Rattle.dh_tables.proofs.last.last_receipt.Goals as goal

pub returns-clause-last : goal.returns-clause-last
returns-clause-last g c clean =
    let old = state g.S.Store c.args.conn.now in
    let early : HasCleanDisk old = omega (arith, c.last_row.ensures.crash.clean, clean) in
    let read = subst (λ (rows : List Row). IfOk c.only.result (λ found. rows_of receipt_shape {R = nat_cmp} rows ≡ only_record receipt_shape found))
    c.deref.ensures.value c.only.ensures.read in
    last_ok c.only.result old.now.trees (c.requires.kept early) c.in_ok-rows.rows.items (c.in_ok-rows.ensures.greatest clean) read

pub returns-clause-corrupt : goal.returns-clause-corrupt
returns-clause-corrupt g c clean so =
    let old = state g.S.Store c.args.conn.now in
    let early : HasCleanDisk old = omega (arith, c.last_row.ensures.crash.clean, clean) in
    let one = greatest_one receipt_shape (old.now.trees receipt_shape.tree) (c.requires.kept early).values c.in_ok-rows.rows.items
    (c.in_ok-rows.ensures.greatest clean) in
    absurd (c.only.ensures.corrupt so (subst (AreOneAtMost receipt_shape.is_row) (sym c.deref.ensures.value) one))

use Rattle.std.proofs.Common.{arith, refl}
use Rattle.sqlite_sql.specs.Term.{col}
use Rattle.sqlite.specs.State.{HasCleanDisk}
use Rattle.sqlite.specs.Held.{state}
use Rattle.dh_sql.proofs.LastRow.{greatest_shown}
use Rattle.dh_tables.specs.ReceiptTable.{receipt_named, receipt_shape}
use Rattle.dh_tables.proofs.LastReceipt.{last_is, last_text, numbered}
use Rattle.dh_tables.proofs.last.last_row.Goals as goal

pub rows_shown-requires : goal.rows_shown-requires
rows_shown-requires g c = record {
  query = λ clean.
      let means = last_is (state g.S.Store c.args.conn.now).now.schema (c.requires.reading clean) in
      record { program = _; names = receipt_named.names; command = means.command; plain = means.plain };
}

pub returns-clause-greatest : goal.returns-clause-greatest
returns-clause-greatest g c clean =
    let old = state g.S.Store c.args.conn.now in
    let early : HasCleanDisk old = omega (arith, c.rows_shown.ensures.crash.clean, clean) in
    greatest_shown receipt_shape last_text old.now.schema receipt_named.shown (col 1 0) receipt_named.names
    (last_is old.now.schema (c.requires.reading early)) (λ r. refl) numbered old
    (state g.S.Store c.rows_shown.new.conn) refl (c.requires.kept early).values c.rows_shown.result (c.rows_shown.ensures.shown clean)

use Rattle.std.proofs.Common.{refl}
use Rattle.sqlite.specs.Held.{state}
use Rattle.dh_model.specs.Kinds.{Charges}
use Rattle.dh_runs.specs.Putting.{with_charges}
use Rattle.dh_schema.proofs.Putting.{added}
use Rattle.dh_runs.proofs.rows.put_bulk.Goals as goal

pub insert_bulk-requires-clause-kept : goal.insert_bulk-requires-clause-kept
insert_bulk-requires-clause-kept g c clean = ((c.requires.writing clean).in_order.tables Charges tt).kept

pub returns-clause-puts : goal.returns-clause-puts
returns-clause-puts g c =
    let call = c.insert_bulk.ensures in
    added Charges _ (state g.S.Store c.args.tx.now.conn.now) (state g.S.Store c.insert_bulk.new.tx.conn.now) (with_charges c.args.charges.now)
    c.insert_bulk.result
    (λ _. tt) c.requires.writing (λ _. refl) call.shown call.added call.undone call.crash

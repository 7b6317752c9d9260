use Rattle.std.proofs.Common.{refl}
use Rattle.sqlite.specs.Held.{state}
use Rattle.dh_model.specs.Kinds.{Charges}
use Rattle.dh_runs.specs.Putting.{with_charge}
use Rattle.dh_schema.proofs.Putting.{added}
use Rattle.dh_runs.proofs.rows.put_charge.Goals as goal

pub insert-requires-clause-kept : goal.insert-requires-clause-kept
insert-requires-clause-kept g c clean = ((c.requires.writing clean).in_order.tables Charges tt).kept

pub returns-clause-puts : goal.returns-clause-puts
returns-clause-puts g c =
    let call = c.insert.ensures in
    added Charges _ (state g.S.Store c.args.tx.now.conn.now) (state g.S.Store c.insert.new.tx.conn.now) (with_charge c.args.charge.now) c.insert.result
    (λ _. tt) c.requires.writing (λ _. refl) call.shown call.added call.undone call.crash

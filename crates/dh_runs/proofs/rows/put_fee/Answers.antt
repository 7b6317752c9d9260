use Rattle.std.proofs.Common.{◌∙◌, [], ◌∷◌, sym}
use Rattle.sqlite.specs.Held.{state}
use Rattle.dh_model.specs.Runs.{part_fee_key}
use Rattle.dh_model.specs.Kinds.{PartFees}
use Rattle.dh_runs.specs.Putting.{with_fees}
use Rattle.dh_schema.proofs.Putting.{added, amended}
use Rattle.dh_runs.proofs.Putting.{fee_added, fee_new, fee_there, later_writing}
use Rattle.dh_runs.proofs.rows.put_fee.Goals as goal

pub update-requires-clause-kept : goal.update-requires-clause-kept
update-requires-clause-kept g c clean = ((c.requires.writing clean).in_order.tables PartFees (c.requires.known clean).second).kept

pub update-requires-clause-apart : goal.update-requires-clause-apart
update-requires-clause-apart g c clean = ((c.requires.writing clean).in_order.tables PartFees (c.requires.known clean).second).apart

pub update-requires-clause-there : goal.update-requires-clause-there
update-requires-clause-there g c clean =
    let old = state g.S.Store c.args.tx.now.conn.now in
    let known = c.requires.known clean in
    let it = fee_there c.args.fee.now old old known.second (sym known.known ∙ c.if-has_part.true) in
    (it.0, it.1)

pub insert-requires-clause-kept : goal.insert-requires-clause-kept
insert-requires-clause-kept g c clean = ((c.requires.writing clean).in_order.tables PartFees (c.requires.known clean).second).kept

pub returns-then-has_part-clause-puts : goal.returns-then-has_part-clause-puts
returns-then-has_part-clause-puts g c =
    let old = state g.S.Store c.args.tx.now.conn.now in
    let new = state g.S.Store c.update.new.tx.conn.now in
    let fee = c.args.fee.now in
    let call = c.update.ensures in
    amended PartFees (part_fee_key fee) (λ it. record it { fee = fee.fee; total = fee.total }) old new (with_fees (fee ∷ []))
    c.update.result (λ clean. (c.requires.known clean).second) c.requires.writing (λ clean. fee_there fee old new (c.requires.known clean).second
    (sym (c.requires.known clean).known ∙ c.if-has_part.true))
    call.shown call.amended call.undone call.crash

pub insert-requires-clause-fresh : goal.insert-requires-clause-fresh
insert-requires-clause-fresh g c clean =
    let known = c.requires.known clean in
    fee_new c.args.fee.now (state g.S.Store c.args.tx.now.conn.now) known.second (sym known.known ∙ c.if-has_part.false)

pub returns-else-has_part-clause-puts : goal.returns-else-has_part-clause-puts
returns-else-has_part-clause-puts g c =
    let old = state g.S.Store c.args.tx.now.conn.now in
    let new = state g.S.Store c.insert.new.tx.conn.now in
    let fee = c.args.fee.now in
    let call = c.insert.ensures in
    added PartFees _ old new (with_fees (fee ∷ [])) c.insert.result (λ clean. (c.requires.known clean).second) c.requires.writing
    (λ clean. fee_added fee old new (c.requires.known clean).second) call.shown call.added call.undone call.crash

pub update-requires-clause-writing : goal.update-requires-clause-writing
update-requires-clause-writing g c clean =
    later_writing (state g.S.Store c.args.tx.now.conn.now) (c.requires.writing clean) (c.requires.known clean).second

pub insert-requires-clause-writing : goal.insert-requires-clause-writing
insert-requires-clause-writing g c clean =
    later_writing (state g.S.Store c.args.tx.now.conn.now) (c.requires.writing clean) (c.requires.known clean).second

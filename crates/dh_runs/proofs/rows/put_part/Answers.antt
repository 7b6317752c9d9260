use Rattle.std.proofs.Common.{◌∙◌, sym}
use Rattle.sqlite.specs.Held.{state}
use Rattle.dh_model.specs.Runs.{part_key}
use Rattle.dh_model.specs.Kinds.{Parts}
use Rattle.dh_schema.specs.Store.{tables}
use Rattle.dh_runs.specs.Putting.{with_part}
use Rattle.dh_schema.proofs.Putting.{added, amended}
use Rattle.dh_runs.proofs.Putting.{part_new, part_there, with_new_part}
use Rattle.dh_runs.proofs.rows.put_part.Goals as goal

pub update-requires-clause-kept : goal.update-requires-clause-kept
update-requires-clause-kept g c clean = ((c.requires.writing clean).in_order.tables Parts tt).kept

pub update-requires-clause-apart : goal.update-requires-clause-apart
update-requires-clause-apart g c clean = ((c.requires.writing clean).in_order.tables Parts tt).apart

pub update-requires-clause-there : goal.update-requires-clause-there
update-requires-clause-there g c clean =
    let old = state g.S.Store c.args.tx.now.conn.now in
    let it = part_there c.args.part.now old old (sym (c.requires.known clean) ∙ c.if-has_part.true) in
    (it.0, it.1)

pub returns-then-has_part-clause-puts : goal.returns-then-has_part-clause-puts
returns-then-has_part-clause-puts g c =
    let old = state g.S.Store c.args.tx.now.conn.now in
    let new = state g.S.Store c.update.new.tx.conn.now in
    let part = c.args.part.now in
    let call = c.update.ensures in
    amended Parts (part_key part) (λ it. record it { through = part.through; count = part.count; total = part.total }) old new (with_part part)
    c.update.result (λ _. tt) c.requires.writing (λ clean. part_there part old new (sym (c.requires.known clean) ∙ c.if-has_part.true))
    call.shown call.amended call.undone call.crash

pub insert-requires-clause-kept : goal.insert-requires-clause-kept
insert-requires-clause-kept g c clean = ((c.requires.writing clean).in_order.tables Parts tt).kept

pub insert-requires-clause-fresh : goal.insert-requires-clause-fresh
insert-requires-clause-fresh g c clean = part_new _ (sym (c.requires.known clean) ∙ c.if-has_part.false)

pub returns-else-has_part-clause-puts : goal.returns-else-has_part-clause-puts
returns-else-has_part-clause-puts g c =
    let old = state g.S.Store c.args.tx.now.conn.now in
    let new = state g.S.Store c.insert.new.tx.conn.now in
    let part = c.args.part.now in
    let call = c.insert.ensures in
    added Parts _ old new (with_part part) c.insert.result (λ _. tt) c.requires.writing (λ _. with_new_part part (tables old).books)
    call.shown call.added call.undone call.crash

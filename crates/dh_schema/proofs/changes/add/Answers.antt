use Rattle.std.proofs.Common.{ap}
use Rattle.sqlite.specs.Held.{state}
use Rattle.dh_model.specs.Edits.{came_with_edit}
use Rattle.dh_schema.proofs.Editing.{add_fresh, add_puts, place_kept, place_writing}
use Rattle.dh_schema.proofs.changes.add.Goals as goal

pub insert-requires-clause-writing : goal.insert-requires-clause-writing
insert-requires-clause-writing g c clean =
    place_writing _ g.R.Tabled.is_kind c.args.change.now (ap came_with_edit c.requires.is) (state g.S.Store c.args.tx.now.conn.now) (c.requires.place clean)
    (c.requires.writing clean)

pub insert-requires-clause-kept : goal.insert-requires-clause-kept
insert-requires-clause-kept g c clean =
    place_kept _ g.R.Tabled.is_kind c.args.change.now (ap came_with_edit c.requires.is) (state g.S.Store c.args.tx.now.conn.now) (c.requires.place clean)
    (c.requires.writing clean)

pub insert-requires-clause-fresh : goal.insert-requires-clause-fresh
insert-requires-clause-fresh g c clean =
    add_fresh _ g.R.Tabled.is_kind c.args.change.now c.args.row.now c.requires.is (state g.S.Store c.args.tx.now.conn.now) (c.requires.fits clean)
    (c.requires.place clean)

pub returns-clause-puts : goal.returns-clause-puts
returns-clause-puts g c =
    let call = c.insert.ensures in
    add_puts _ g.R.Tabled.is_kind c.args.change.now c.args.row.now c.requires.is (state g.S.Store c.args.tx.now.conn.now)
    (state g.S.Store c.insert.new.tx.conn.now) c.insert.result c.requires.writing c.requires.place call.shown call.added call.undone call.crash

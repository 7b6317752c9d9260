use Rattle.sqlite.specs.Held.{state}
use Rattle.dh_schema.proofs.Editing.{amend_puts, amend_there, place_apart, place_kept, place_writing}
use Rattle.dh_schema.proofs.changes.amend.Goals as goal

pub update-requires-clause-writing : goal.update-requires-clause-writing
update-requires-clause-writing g c clean =
    place_writing _ g.A.Record.Tabled.is_kind c.args.change.now c.requires.is.came (state g.S.Store c.args.tx.now.conn.now) (c.requires.place clean)
    (c.requires.writing clean)

pub update-requires-clause-kept : goal.update-requires-clause-kept
update-requires-clause-kept g c clean =
    place_kept _ g.A.Record.Tabled.is_kind c.args.change.now c.requires.is.came (state g.S.Store c.args.tx.now.conn.now) (c.requires.place clean)
    (c.requires.writing clean)

pub update-requires-clause-apart : goal.update-requires-clause-apart
update-requires-clause-apart g c clean =
    place_apart _ g.A.Record.Tabled.is_kind c.args.change.now c.requires.is.came (state g.S.Store c.args.tx.now.conn.now) (c.requires.place clean)
    (c.requires.writing clean)

pub update-requires-clause-there : goal.update-requires-clause-there
update-requires-clause-there g c clean =
    amend_there _ g.A.Record.Tabled.is_kind c.args.change.now (g.A.Amend.key c.args.amendment.now) (g.A.Amend.amended c.args.amendment.now) c.requires.is
    (state g.S.Store c.args.tx.now.conn.now) (c.requires.fits clean) (c.requires.place clean)

pub returns-clause-puts : goal.returns-clause-puts
returns-clause-puts g c =
    let call = c.update.ensures in
    amend_puts _ g.A.Record.Tabled.is_kind c.args.change.now (g.A.Amend.key c.args.amendment.now) (g.A.Amend.amended c.args.amendment.now) c.requires.is
    (state g.S.Store c.args.tx.now.conn.now) (state g.S.Store c.update.new.tx.conn.now) c.update.result
    c.requires.writing c.requires.place c.requires.fits call.shown call.amended call.undone call.crash

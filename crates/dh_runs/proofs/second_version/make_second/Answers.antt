use Rattle.std.proofs.Common.{inr, arith}
use Rattle.std.proofs.lemmas.Result.{err_from_is_err_and}
use Rattle.sqlite.specs.State.{HasCleanDisk}
use Rattle.sqlite.specs.Held.{state}
use Rattle.dh_schema.proofs.Putting.{puts_none}
use Rattle.dh_runs.proofs.Grown.{made_second, row_there, was_first}
use Rattle.dh_runs.proofs.second_version.make_second.Goals as goal

pub create_later-requires : goal.create_later-requires
create_later-requires g c clean =
    let writing = c.requires.writing clean in
    record { inside = writing.inside; schema_is = was_first (state g.S.Store c.args.tx.now.conn.now) writing (c.requires.first clean) }

pub set_version-requires-clause-writing : goal.set_version-requires-clause-writing
set_version-requires-clause-writing g c clean =
    let grown = c.in_ok-create_later.ensures.made clean in
    record { inside = grown.writing.inside; has = inr grown.writing.schema_is }

pub set_version-requires-clause-there : goal.set_version-requires-clause-there
set_version-requires-clause-there g c clean =
    let old = state g.S.Store c.args.tx.now.conn.now in
    let early : HasCleanDisk old = omega (arith, c.create_later.ensures.crash.clean, clean) in
    row_there old (c.requires.writing early) (c.requires.first early) (state g.S.Store c.create_later.new.tx.conn.now)
    (c.in_ok-create_later.ensures.made clean)

pub returns-in_err-create_later-clause-puts : goal.returns-in_err-create_later-clause-puts
returns-in_err-create_later-clause-puts g c =
    let is = err_from_is_err_and c.from_residual.result c.from_residual.ensures.1 in
    puts_none is.1 c.create_later.ensures.kept c.create_later.ensures.crash

pub returns-clause-puts : goal.returns-clause-puts
returns-clause-puts g c =
    let made = c.create_later.ensures in
    let set = c.set_version.ensures in
    made_second (state g.S.Store c.args.tx.now.conn.now) (state g.S.Store c.create_later.new.tx.conn.now) (state g.S.Store c.set_version.new.tx.conn.now)
    c.set_version.result c.requires.writing c.requires.first c.in_ok-create_later.ensures.made made.kept made.crash set.shown set.set set.undone set.crash

use Rattle.std.proofs.lemmas.Result.{err_from_is_err_and}
use Rattle.sqlite.specs.Held.{state}
use Rattle.dh_ddl.specs.Versions.{HasSince}
use Rattle.dh_model.specs.Kinds.{came_with}
use Rattle.dh_schema.proofs.ReadTables.{all_before, and_more, lacks_first, still_has, still_lacks, stopped}
use Rattle.dh_schema.proofs.all_tables.Tuple2Tables.load.Goals as goal

pub load-requires-clause-reading : goal.load-requires-clause-reading
load-requires-clause-reading g c clean =
    all_before (λ kind. HasSince (came_with kind) (state g.S.Store c.args.conn.now).now.schema) g.A.Tables.kinds g.B.Tables.kinds (c.requires.reading clean)

pub load-requires-clause-none : goal.load-requires-clause-none
load-requires-clause-none g c clean =
    lacks_first g.A.Tables.kinds g.B.Tables.kinds (state g.S.Store c.args.conn.now).now.trees c.args.books.now (c.requires.none clean)

pub load-requires-2-clause-reading : goal.load-requires-2-clause-reading
load-requires-2-clause-reading g c = still_has c.in_ok-load.ensures g.B.Tables.kinds c.requires.reading

pub load-requires-2-clause-none : goal.load-requires-2-clause-none
load-requires-2-clause-none g c = still_lacks c.in_ok-load.ensures g.B.Tables.kinds c.requires.none

pub returns-in_err-load : goal.returns-in_err-load
returns-in_err-load g c =
    stopped g.B.Tables.kinds (err_from_is_err_and c.from_residual.result c.from_residual.ensures.1) c.in_err-load.ensures

pub returns : goal.returns
returns g c = and_more c.in_ok-load.ensures c.load-2.ensures

use Rattle.std.proofs.Common.{arith}
use Rattle.sqlite.specs.State.{HasCleanDisk}
use Rattle.sqlite.specs.Held.{state}
use Rattle.dh_schema.specs.Tables.{version_of_tables}
use Rattle.dh_schema.proofs.OfKind.{is_kept}
use Rattle.dh_schema.proofs.Versions.{has_since}
use Rattle.dh_schema.proofs.looks.one_table.look_at_all.Goals as goal

pub gather_all-requires-clause-reading : goal.gather_all-requires-clause-reading
gather_all-requires-clause-reading g c clean =
    let now = (state g.S.Store c.args.conn.now).now in
    has_since g.R.Tabled.since (version_of_tables now.trees) now.schema (c.requires.ready clean).version (c.requires.since clean)

-- sound tables have no row that is no record
pub unclean-requires : goal.unclean-requires
unclean-requires g c clean =
    let early : HasCleanDisk (state g.S.Store c.args.conn.now) = omega (arith, c.gather_all.ensures.crash.clean, clean) in
    c.in-Ok-false.ensures.damaged clean c.in-Ok-false.field-0-test
    (is_kept _ g.R.Tabled.is_kind _ (c.requires.ready early).sound.in_order (c.requires.since early)).values

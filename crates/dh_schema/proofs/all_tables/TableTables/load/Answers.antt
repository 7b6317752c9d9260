use Rattle.sqlite.specs.Held.{state}
use Rattle.dh_schema.proofs.ReadTables.{type_has, type_lacks, type_loads}
use Rattle.dh_schema.proofs.all_tables.TableTables.load.Goals as goal

pub load_table-requires-clause-reading : goal.load_table-requires-clause-reading
load_table-requires-clause-reading g c clean =
    type_has _ g.R.Tabled.is_kind (state g.S.Store c.args.conn.now).now.schema (c.requires.reading clean).0

pub load_table-requires-clause-none : goal.load_table-requires-clause-none
load_table-requires-clause-none g c clean = type_lacks _ g.R.Tabled.is_kind c.args.books.now (c.requires.none clean).0

pub returns : goal.returns
returns g c = type_loads _ g.R.Tabled.is_kind c.load_table.ensures

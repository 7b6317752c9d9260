use Rattle.std.proofs.Common.{◌∙◌, ap, subst, sym}
use Rattle.sqlite.specs.Held.{state}
use Rattle.dh_types.specs.declared.version.Version.{Version}
use Rattle.dh_types.specs.declared.version.Version.TheVariants.{First, Second}
use Rattle.dh_ddl.specs.Versions.{HasSince, schema_of}
use Rattle.dh_model.specs.Kinds.{came_with}
use Rattle.dh_schema.specs.Loaded.{HasNone, Loads, kinds_of}
use Rattle.dh_schema.proofs.ReadTables.{lacks_all, of_each}
use Rattle.dh_schema.proofs.Versions.{has_since}
use Rattle.dh_schema.proofs.all_tables.load_records.Goals as goal

pub load-requires-clause-reading : goal.load-requires-clause-reading
load-requires-clause-reading g c clean =
    let schema = (state g.S.Store c.args.conn.now).now.schema in
    of_each (λ kind. HasSince (came_with kind) schema) First
    (λ kind. has_since (came_with kind) First schema (c.requires.reading clean ∙ ap schema_of c.in-First.is))

pub load-requires-clause-none : goal.load-requires-clause-none
load-requires-clause-none g c clean =
    lacks_all First (state g.S.Store c.args.conn.now).now.trees c.args.books.now
    (subst (λ (v : Version). HasNone (kinds_of v) c.args.books.now) c.in-First.is (c.requires.none clean))

pub load-requires-in-Second-clause-reading : goal.load-requires-in-Second-clause-reading
load-requires-in-Second-clause-reading g c clean =
    let schema = (state g.S.Store c.args.conn.now).now.schema in
    of_each (λ kind. HasSince (came_with kind) schema) Second
    (λ kind. has_since (came_with kind) Second schema (c.requires.reading clean ∙ ap schema_of c.in-Second.is))

pub load-requires-in-Second-clause-none : goal.load-requires-in-Second-clause-none
load-requires-in-Second-clause-none g c clean =
    lacks_all Second (state g.S.Store c.args.conn.now).now.trees c.args.books.now
    (subst (λ (v : Version). HasNone (kinds_of v) c.args.books.now) c.in-Second.is (c.requires.none clean))

pub returns-in-First : goal.returns-in-First
returns-in-First g c =
    subst (λ (v : Version). Loads (kinds_of v) c.load.result (state g.S.Store c.args.conn.now) (state g.S.Store c.load.new.conn)
    c.args.books.now c.load.new.books) (sym c.in-First.is) c.load.ensures

pub returns-in-Second : goal.returns-in-Second
returns-in-Second g c =
    subst (λ (v : Version). Loads (kinds_of v) c.load-in-Second.result (state g.S.Store c.args.conn.now) (state g.S.Store c.load-in-Second.new.conn)
    c.args.books.now c.load-in-Second.new.books) (sym c.in-Second.is) c.load-in-Second.ensures

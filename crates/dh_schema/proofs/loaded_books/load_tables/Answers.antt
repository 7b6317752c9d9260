use Rattle.std.proofs.Common.{◌≡◌, ◌∙◌, Err, ap, subst, sym, arith}
use Rattle.std.specs.FinMap.{empty}
use Rattle.std.proofs.lemmas.Result.{err_from_is_err_and}
use Rattle.sqlite_schema.specs.declared.schema.Schema.{Schema}
use Rattle.sqlite_catalog.specs.Listing as catalog
use Rattle.sqlite_trees.specs.Tree.{Trees}
use Rattle.sqlite.specs.Effect.{Database}
use Rattle.sqlite.specs.State.{HasCleanDisk}
use Rattle.sqlite.specs.Held.{state}
use Rattle.dh_rows.specs.Months.{Months}
use Rattle.dh_model.specs.Books as machine
use Rattle.dh_model.specs.Kinds.{Kind}
use Rattle.dh_ddl.specs.Versions.{schema_of}
use Rattle.dh_tables.specs.MetaTable.{AreFound, meta_rows}
use Rattle.dh_schema.specs.Kinds.{accessor_of}
use Rattle.dh_schema.specs.Loaded.{AllAreRecords, AreLoaded, HasNone, kinds_of}
use Rattle.dh_schema.specs.Tables.{empty_over}
use Rattle.dh_schema.proofs.EachKind.{none_held}
use Rattle.dh_schema.proofs.ReadTables.{all_of, given, loaded_books, loaded_order, months_have, no_values, same_fault}
use Rattle.dh_schema.proofs.loaded_books.load_tables.Goals as goal

pub load_records-requires-clause-reading : goal.load_records-requires-clause-reading
load_records-requires-clause-reading g c clean =
    let early : HasCleanDisk (state g.S.Store c.args.conn.now) = omega (arith, c.find_meta.ensures.crash.clean, clean) in
    ap (λ (d : Database). d.schema) (c.in_ok-months.ensures.same clean).0.now_is ∙ c.requires.reading early

pub load_records-requires-clause-none : goal.load_records-requires-clause-none
load_records-requires-clause-none g c clean =
    let months : Months = record { version = c.version.result; first = c.first.result; next = c.next.result } in
    subst (HasNone (kinds_of c.args.version)) (sym c.new-books.ensures)
    (all_of (λ (kind : Kind). (accessor_of kind).held (empty_over months) ≡ empty) (λ kind. none_held kind months) (kinds_of c.args.version))

pub returns-in_err-load_records-clause-damaged : goal.returns-in_err-load_records-clause-damaged
returns-in_err-load_records-clause-damaged g c clean told has =
    let old = state g.S.Store c.args.conn.now in
    let half : HasCleanDisk (state g.S.Store c.find_meta.new.conn) = omega (arith, c.load_records.ensures.reads.crash.clean, clean) in
    let early : HasCleanDisk old = omega (arith, c.find_meta.ensures.crash.clean, half) in
    let stays = ap (λ (d : Database). d.trees) (c.in_ok-months.ensures.same half).0.now_is in
    let is = err_from_is_err_and c.from_residual-in_err-load_records.result c.from_residual-in_err-load_records.ensures.1 in
    let damage = c.in_err-load_records.ensures.reads.damaged clean (ap Err (same_fault (sym (is.1 ∙ ap Err is.2) ∙ told))) in
    no_values c.args.version old.now.trees (c.requires.given early) (subst (λ (t : Trees). ¬ AllAreRecords (kinds_of c.args.version) t) stays damage) has

pub returns-clause-books : goal.returns-clause-books
returns-clause-books g c clean =
    let old = state g.S.Store c.args.conn.now in
    let months = c.in-Some.months in
    let version = c.args.version in
    let half : HasCleanDisk (state g.S.Store c.find_meta.new.conn) = omega (arith, c.load_records.ensures.reads.crash.clean, clean) in
    let early : HasCleanDisk old = omega (arith, c.find_meta.ensures.crash.clean, half) in
    let stays = ap (λ (d : Database). d.trees) (c.in_ok-months.ensures.same half).0.now_is in
    let has = subst (AreFound (meta_rows old.now.trees)) c.in-Some.is (c.in_ok-months.ensures.found half) in
    let begun : c.new-books.result ≡ empty_over months = c.new-books.ensures
    ∙ (λ i. empty_over (record { version = c.version.ensures i; first = c.first.ensures i; next = c.next.ensures i })) in
    let read = subst (λ (t : Trees). AreLoaded (kinds_of version) t c.new-books.result c.load_records.new.books) stays
    (c.in_ok-load_records.ensures.reads.done clean) in
    loaded_books old.now.trees months has version (months_have months version old.now.trees has (c.requires.given early)) c.load_records.new.books
    (subst (λ (before : machine.State). AreLoaded (kinds_of version) old.now.trees before c.load_records.new.books) begun read)

pub returns-clause-in_order : goal.returns-clause-in_order
returns-clause-in_order g c clean =
    let old = state g.S.Store c.args.conn.now in
    let months = c.in-Some.months in
    let version = c.args.version in
    let half : HasCleanDisk (state g.S.Store c.find_meta.new.conn) = omega (arith, c.load_records.ensures.reads.crash.clean, clean) in
    let early : HasCleanDisk old = omega (arith, c.find_meta.ensures.crash.clean, half) in
    let stays = ap (λ (d : Database). d.trees) (c.in_ok-months.ensures.same half).0.now_is in
    let has = subst (AreFound (meta_rows old.now.trees)) c.in-Some.is (c.in_ok-months.ensures.found half) in
    let read = subst (λ (t : Trees). AreLoaded (kinds_of version) t c.new-books.result c.load_records.new.books) stays
    (c.in_ok-load_records.ensures.reads.done clean) in
    let listed = subst (λ (s : Schema). catalog.IsSound s old.now.trees) (c.requires.reading early)
    (c.schema-listed.ensures.live (c.in_ok-months.ensures.same half).0.was_open).0 in
    loaded_order old.now.trees months has version (months_have months version old.now.trees has (c.requires.given early)) c.new-books.result
    c.load_records.new.books listed read

pub returns-clause-version : goal.returns-clause-version
returns-clause-version g c clean =
    let old = state g.S.Store c.args.conn.now in
    let months = c.in-Some.months in
    let half : HasCleanDisk (state g.S.Store c.find_meta.new.conn) = omega (arith, c.load_records.ensures.reads.crash.clean, clean) in
    let early : HasCleanDisk old = omega (arith, c.find_meta.ensures.crash.clean, half) in
    let has = subst (AreFound (meta_rows old.now.trees)) c.in-Some.is (c.in_ok-months.ensures.found half) in
    let its = given old.now.trees months has c.args.version (months_have months c.args.version old.now.trees has (c.requires.given early)) in
    c.requires.reading early ∙ ap schema_of (sym its)

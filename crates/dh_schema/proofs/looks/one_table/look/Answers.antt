use Rattle.std.proofs.Common.{◌≡◌, ◌∙◌, ap, arith}
use Rattle.sqlite.specs.Effect.{Database}
use Rattle.sqlite.specs.State.{HasCleanDisk}
use Rattle.sqlite.specs.Held.{state}
use Rattle.dh_sql.specs.Shape.{rows_in}
use Rattle.dh_schema.specs.Tables.{state_in, version_of_tables}
use Rattle.dh_schema.proofs.EachKind.{all_since}
use Rattle.dh_schema.proofs.Versions.{has_since}
use Rattle.dh_schema.proofs.OfKind.{holds, is_kept}
use Rattle.dh_schema.proofs.Taken.{taken, taken_more}
use Rattle.dh_tables.proofs.OfKind.{ties, total}
use Rattle.dh_schema.proofs.looks.one_table.look.Goals as goal

pub fetch_more-requires-clause-reading : goal.fetch_more-requires-clause-reading
fetch_more-requires-clause-reading g c clean =
    let now = (state g.S.Store c.args.conn.now).now in
    has_since g.L.Record.Tabled.since (version_of_tables now.trees) now.schema (c.requires.ready clean).version (c.requires.since clean)

pub fetch_more-requires-clause-kept : goal.fetch_more-requires-clause-kept
fetch_more-requires-clause-kept g c clean =
    is_kept _ g.L.Record.Tabled.is_kind _ (c.requires.ready clean).sound.in_order (c.requires.since clean)

pub returns-in-Ok-true-clause-brought : goal.returns-in-Ok-true-clause-brought
returns-in-Ok-true-clause-brought g c =
    let old = state g.S.Store c.args.conn.now in
    let T = g.L.Record.Tabled in
    let asks = g.L.Look.asks c.args.question.now in
    let trees = old.now.trees in
    let books = c.args.books.now in
    let after = c.fetch_more.new.books in
    let held : HasCleanDisk old → T.accessor.held (state_in trees) ≡ rows_in T.shape {R = T.order} trees = λ early. holds _ g.L.Record.Tabled.is_kind trees
    ∙ all_since T.since (version_of_tables trees) (rows_in T.shape {R = T.order} trees) (c.requires.since early) in
    record {
      first = λ t b both none clean.
          let early : HasCleanDisk old = omega (arith, c.fetch_more.ensures.crash.clean, clean) in
          let same = both early in
          let fetched = c.in-Ok-true.ensures.fetched clean c.in-Ok-true.field-0-test in (
            ap (λ (d : Database). state_in d.trees) (c.in-Ok-true.ensures.same clean).0.now_is ∙ same.0,
            taken (total T.is_kind) (ties T.is_kind) T.shape T.accessor asks trees t b books after (held early) same.0 same.1 fetched none,
          );
      more = λ t b test both had clean.
          let early : HasCleanDisk old = omega (arith, c.fetch_more.ensures.crash.clean, clean) in
          let same = both early in
          let fetched = c.in-Ok-true.ensures.fetched clean c.in-Ok-true.field-0-test in (
            ap (λ (d : Database). state_in d.trees) (c.in-Ok-true.ensures.same clean).0.now_is ∙ same.0,
            taken_more (total T.is_kind) (ties T.is_kind) T.shape T.accessor asks trees t b books after (held early) same.0 same.1 fetched test had,
          );
    }

-- rows that are asked for are records
pub unclean-requires : goal.unclean-requires
unclean-requires g c clean = let read = c.in-Ok-false.ensures.read clean in cc

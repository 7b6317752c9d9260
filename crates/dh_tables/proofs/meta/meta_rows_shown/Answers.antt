use Rattle.std.proofs.Common.{arith}
use Rattle.sqlite.specs.State.{HasCleanDisk}
use Rattle.sqlite.specs.Held.{state}
use Rattle.dh_tables.proofs.MetaChanges.{all_shown}
use Rattle.dh_tables.proofs.MetaTexts.{meta_named, meta_shown_is}
use Rattle.dh_tables.proofs.meta.meta_rows_shown.Goals as goal

pub rows_shown-requires : goal.rows_shown-requires
rows_shown-requires g c = record {
  query = λ clean.
      let means = meta_shown_is (state g.S.Store c.args.conn.now).now.schema (c.requires.reading clean) in
      record { program = _; names = meta_named.names; command = means.command; plain = means.plain };
}

pub returns-clause-rows : goal.returns-clause-rows
returns-clause-rows g c clean =
    let old = state g.S.Store c.args.conn.now in
    let early : HasCleanDisk old = omega (arith, c.rows_shown.ensures.crash.clean, clean) in
    all_shown c.rows_shown.result old (state g.S.Store c.rows_shown.new.conn) (c.requires.reading early) (c.rows_shown.ensures.shown clean)

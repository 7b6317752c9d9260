use Rattle.std.proofs.Common.{[], refl, List, ℕ, IfOk, arith, subst, sym}
use Rattle.sqlite.specs.State.{HasCleanDisk, Shown}
use Rattle.sqlite.specs.Held.{state}
use Rattle.dh_sql.proofs.WholeTable.{shows_all}
use Rattle.dh_tables.specs.Calls.{IsQuery}
use Rattle.dh_tables.specs.Listing.{select_rows_text}
use Rattle.dh_tables.proofs.all_rows.rows_listed.Goals as goal

pub rows_shown-requires : goal.rows_shown-requires
rows_shown-requires g c = record {
  query = λ clean.
      let old = state g.S.Store c.args.conn.now in
      let names = g.R.Listed.named.names in
      let means = g.met.R.Listed.is_listing.selects old.now.schema (c.requires.reading clean) in
      subst (λ (t : List ℕ). IsQuery t old) (sym c.select_rows_text.ensures)
      (record { program = _; names = names; command = means.command; plain = means.plain });
}

pub returns-clause-rows : goal.returns-clause-rows
returns-clause-rows g c clean =
    let old = state g.S.Store c.args.conn.now in
    let new = state g.S.Store c.rows_shown.new.conn in
    let early : HasCleanDisk old = omega (arith, c.rows_shown.ensures.crash.clean, clean) in
    let it = g.R.Tabled.shape in
    let how = g.R.Listed.named in
    let law = g.met.R.Listed.is_listing in
    let told = subst (λ (t : List ℕ). IfOk c.rows_shown.result (λ rows. Shown t [] old new rows.items)) c.select_rows_text.ensures
    (c.rows_shown.ensures.shown clean) in
    shows_all (select_rows_text how) old.now.schema it.tree how.shown how.names (law.selects old.now.schema (c.requires.reading early)) it.columns
    law.shows_columns
    old new refl c.rows_shown.result told

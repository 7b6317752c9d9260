use Rattle.std.proofs.Common.{[], ◌∷◌, refl, List, ℕ, IfOk, arith, subst, sym}
use Rattle.sqlite_sql.specs.Term.{col}
use Rattle.sqlite.specs.State.{HasCleanDisk, Shown}
use Rattle.sqlite.specs.Held.{state}
use Rattle.dh_sql.proofs.WholeTable.{shows_all}
use Rattle.dh_tables.specs.Calls.{IsQuery}
use Rattle.dh_tables.specs.Listing.{rowid_alone, select_rowids_text}
use Rattle.dh_tables.proofs.all_rows.rowids_listed.Goals as goal

pub rows_shown-requires : goal.rows_shown-requires
rows_shown-requires g c = record {
  query = λ clean.
      let old = state g.S.Store c.args.conn.now in
      let names = g.R.Listed.named.rowid_name ∷ [] in
      let means = g.met.R.Listed.is_listing.selects_rowid old.now.schema (c.requires.reading clean) in
      subst (λ (t : List ℕ). IsQuery t old) (sym c.select_rowids_text.ensures)
      (record { program = _; names = names; command = means.command; plain = means.plain });
}

pub returns-clause-rows : goal.returns-clause-rows
returns-clause-rows g c clean =
    let old = state g.S.Store c.args.conn.now in
    let new = state g.S.Store c.rows_shown.new.conn in
    let early : HasCleanDisk old = omega (arith, c.rows_shown.ensures.crash.clean, clean) in
    let it = g.R.Tabled.shape in
    let how = g.R.Listed.named in
    let law = g.met.R.Listed.is_listing in
    let told = subst (λ (t : List ℕ). IfOk c.rows_shown.result (λ rows. Shown t [] old new rows.items)) c.select_rowids_text.ensures
    (c.rows_shown.ensures.shown clean) in
    shows_all (select_rowids_text how) old.now.schema it.tree (col 1 0 ∷ []) (how.rowid_name ∷ []) (law.selects_rowid old.now.schema (c.requires.reading early))
    rowid_alone (λ r. refl)
    old new refl c.rows_shown.result told

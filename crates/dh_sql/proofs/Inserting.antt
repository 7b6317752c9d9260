-- What an INSERT of rows of values does, to any table without AUTOINCREMENT.
use Rattle.std.proofs.Common.{◌≡◌, ◌≢◌, ℕ, List, [], map, cond, None, Ok, ap, subst, true, ◌∙◌}
use Rattle.std.specs.List.{AllByRecursion}
use Rattle.sqlite.specs.Order.{Row}
use Rattle.sqlite.specs.Term.{Term}
use Rattle.sqlite.specs.Table.{Table}
use Rattle.sqlite.specs.Schema.{Schema}
use Rattle.sqlite.specs.Source.TheVariants.{Values}
use Rattle.sqlite.specs.Command.TheVariants.{Insert}
use Rattle.sqlite_schema.specs.declared.schema.Keys.TheVariants.{Enforced}
use Rattle.sqlite_rules.specs.Action.{works}
use Rattle.sqlite_catalog.specs.Listing.{IsSound}
use Rattle.sqlite.specs.Edit.{Edit, are_fresh, edit_of, numbered, put_all}
use Rattle.sqlite.specs.Cast.{cast_row}
use Rattle.sqlite.specs.Rowids.TheVariants.{Chosen, Above}
use Rattle.sqlite.specs.Effect.{Database}
use Rattle.sqlite.specs.Does.{Tally, Does, AtPlace, OnRows}
use Rattle.sqlite.specs.Rows.{Written, rowids_for, count_of}
use Rattle.sqlite.specs.Tree.{Trees}
use Rattle.sqlite.specs.Listing.{understood}
use Rattle.sqlite.specs.State.{State, mode_of, Executes}
use Rattle.sqlite.proofs.Callers.{statement_of, runs_as, one_step}
use Rattle.dh_sql.specs.Texts.{IsInsertText, IsQuiet}
use Rattle.dh_sql.proofs.Running.{went, same_value, no_count}

-- the tree has these rows too, each with a rowid of its own
pub record PutsRows (schema : Schema) (tree : ℕ) (rows : List Row) (old new : Trees) : Type 0 where
  pub fresh : are_fresh (old tree) rows ≡ true
  pub rows_are : new tree ≡ put_all (old tree) rows
  pub others : AllByRecursion (λ t. t.tree ≢ tree → new t.tree ≡ old t.tree) schema.tables

module _ (text : List ℕ) (schema : Schema) (at : ℕ) (table : Table) (terms : List Term) (width : ℕ) (params : Row) (sources : List Row)
    (quiet : IsQuiet schema) (is : IsInsertText text schema at table terms width params sources) where
  pub inserts : (old new : State) (count : ℕ) → old.now.schema ≡ schema → Executes text params old new (Ok count)
      → (new.now.schema ≡ schema)
      × PutsRows schema table.tree (numbered Chosen (old.now.trees table.tree) (map (cast_row table) sources)) old.now.trees new.now.trees
      × IsSound schema new.now.trees
  inserts old new count has h =
      let db = old.now.trees in
      let command = Insert at (Values terms width) in
      let w = runs_as text params old new schema has command is.command is.plain count h in
      let statement = statement_of text (understood schema text) in
      let changed =
      subst (λ s. Does old.step_limit (mode_of old) params (record old.now { schema = s }) statement None command (Ok (w.tally, new.now))) has w.changed in
      let on = subst (λ o. AtPlace (λ t.
      OnRows (record { limit = old.step_limit; keys = Enforced; schema = schema; table = t; params = params }) (mode_of old) None command db)
      o (Ok (w.tally, new.now))) is.listed changed in
      let done = went on in
      let now = ap (λ (p : Tally × Database). p.1) (same_value (went (went done.2).2).2) in
      let given = went done.1 in
      let counter = went given.2 in
      let written = went counter.2 in
      let counted = went written.2 in
      let last : counted.0 ≡ written.0 = same_value (no_count table.is_counted _ _ _ is.is_uncounted counted.1) in
      let trees : done.0.trees ≡ written.0 = ap (λ (it : Written). it.trees) (same_value counted.2) ∙ last in
      let after : new.now.trees ≡ written.0 = ap (λ (d : Database). d.trees) now ∙ trees in
      let rows = numbered Chosen (db table.tree) (map (cast_row table) sources) in
      let chosen : rowids_for table (count_of counter.0) ≡ Chosen = ap (λ b. cond b (Above (count_of counter.0)) Chosen) is.is_uncounted in
      let edit : Edit = edit_of db table [] (rowids_for table (count_of counter.0)) 0 given.0 in
      let news : edit.news ≡ rows =
      ap (λ k. (edit_of db table [] k 0 given.0).news) chosen ∙ ap (λ all. (edit_of db table [] Chosen 0 all).news) (given.1.1 ∙ is.value) in
      let none = ap (works schema Enforced 0 table.tree []) news ∙ quiet table.tree [] rows in
      let applied = one_step schema Enforced db written.0 edit none written.1 in
      let schema_is = ap (λ (d : Database). d.schema) now in (
        schema_is,
        record {
          fresh = rw news at applied.fresh;
          rows_are = rw after (applied.rows ∙ ap (put_all (db table.tree)) news);
          others = rw after applied.tables;
        },
        subst (λ s. IsSound s new.now.trees) schema_is w.sound,
      )

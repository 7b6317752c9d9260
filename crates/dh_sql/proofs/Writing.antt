-- What an UPDATE that went well has done, for any schema whose references have no action.
use Rattle.std.proofs.Common.{◌≡◌, ℕ, List, slice_get, Some, None, Ok, sym, ap, subst, ◌∙◌}
use Rattle.sqlite.specs.Order.{Row}
use Rattle.sqlite.specs.Table.{Table}
use Rattle.sqlite.specs.Schema.{Schema}
use Rattle.sqlite.specs.Command.TheVariants.{Update}
use Rattle.sqlite_schema.specs.declared.program.Program.{Program}
use Rattle.sqlite_schema.specs.declared.schema.Keys.TheVariants.{Enforced}
use Rattle.sqlite_rules.specs.Action.{Writes as Carries}
use Rattle.sqlite_catalog.specs.Listing.{IsSound}
use Rattle.sqlite_rules.specs.Calls.{ids_of}
use Rattle.sqlite.specs.Edit.{Applies, Edit, edit_of, taken_by}
use Rattle.sqlite.specs.Rowids.TheVariants.{Given}
use Rattle.sqlite.specs.Does.{Tally}
use Rattle.sqlite.specs.Rows.{Written}
use Rattle.sqlite.specs.Tree.{Trees}
use Rattle.sqlite.specs.Effect.{Database, Answers}
use Rattle.sqlite.specs.State.{State, Writes}
use Rattle.sqlite.proofs.Callers.{one_step}
use Rattle.dh_sql.specs.Texts.{IsQuiet, uncounted}
use Rattle.dh_sql.proofs.Running.{same_value, went}

-- the schema stays, and the rows that its query showed are written in the place of those that it found
pub record Updates (schema : Schema) (old new : Database) (table : Table) (query : Program) (params : Row) : Type 0 where
  pub shown : List Row
  pub answer : Answers (record { schema = schema; trees = old.trees }) query params shown
  pub schema_is : new.schema ≡ schema
  pub listed : IsSound schema new.trees
  pub applied : Applies schema Enforced old.trees (edit_of old.trees (uncounted table) (ids_of shown) Given 1 shown) new.trees

module _ (schema : Schema) (quiet : IsQuiet schema) (at : ℕ) (t : Table) (is : slice_get schema.tables at ≡ Some (uncounted t)) (old new : State)
    (has : old.now.schema ≡ schema) (text : List ℕ) (params : Row) (count : ℕ) (q : Program) where
  pub updates : Writes old new None (Update at q) text params count → Updates schema old.now new.now t q params
  updates w =
      let db = old.now.trees in
      let done = went (rw (has, is) at w.changed) in
      let given = went done.1 in
      let written = went given.2 in
      let tested = went done.2 in
      let shown = went tested.2 in
      let now : new.now ≡ record { schema = schema; trees = done.0.trees } = ap (λ (p : Tally × Database). p.1) (same_value shown.2) in
      let trees : done.0.trees ≡ written.0 = ap (λ (it : Written). it.trees) (same_value written.2) in
      let is_trees : new.now.trees ≡ done.0.trees = ap (λ (d : Database). d.trees) now in
      let edit : Edit = edit_of db (uncounted t) (ids_of given.0) Given 1 given.0 in
      let carried = subst (λ (n : Trees). Carries schema Enforced db edit (Ok n)) (sym (is_trees ∙ trees)) written.1 in
      record {
        shown = given.0;
        answer = given.1;
        schema_is = ap (λ (d : Database). d.schema) now;
        listed = subst (λ s. IsSound s new.now.trees) (ap (λ (d : Database). d.schema) now) w.sound;
        applied = one_step schema Enforced db new.now.trees edit (quiet edit.table.tree (taken_by db edit) edit.news) carried;
      }

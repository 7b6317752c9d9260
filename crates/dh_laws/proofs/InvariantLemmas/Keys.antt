-- Each row stands under its key after every change.
use Rattle.std.proofs.Common.{◌≡◌, ◌∙◌, refl, ◌+◌, Option, Some, None}
use Rattle.std.specs.FinMap.{get}
use Rattle.dh_model.specs.declared.rows.Change.{Change}
use Rattle.dh_model.specs.declared.rows.Change.TheVariants as change
use Rattle.dh_model.specs.Books.{Books}
use Rattle.dh_model.specs.Edits.{Begin, Edit, Insert, Nothing, Replace, Update, edit_of, edited, updated, with_row}
use Rattle.dh_model.specs.Kinds.{Kind, key_in, key_of, record_of, records_of}
use Rattle.dh_model.specs.Machine.{changed}
use Rattle.dh_laws.specs.InOrder.{AreKeyed}
use Rattle.dh_laws.proofs.InvariantLemmas.KeyedRows.{keyed_next, keyed_put}

-- a row that becomes another keeps its key
abbrev KeepsKey : Edit → Type 0
KeepsKey (Update kind key into) = (row : record_of kind) → key_in kind (into row) ≡ key_in kind row
KeepsKey _ = Unit {0}

keeps_key : (rows : Change) → KeepsKey (edit_of rows)
keeps_key (change.Assign it) = λ row. refl
keeps_key (change.Rent it) = λ row. refl
keeps_key (change.Comment it) = λ row. refl
keeps_key rows = tt

module _ (books : Books) (keyed : AreKeyed books) where
  keyed_updated : (kind : Kind) (key : key_of kind) (into : record_of kind → record_of kind) → KeepsKey (Update kind key into)
      → (found : Option (record_of kind)) → get (records_of kind books) key ≡ found → AreKeyed (updated kind key into books found)
  keyed_updated kind key into keeps None is = keyed
  keyed_updated kind key into keeps (Some row) is = keyed_put books keyed kind key (into row) (keeps row ∙ keyed kind key row is)

  keyed_edited : (edit : Edit) → KeepsKey edit → AreKeyed (edited edit books)
  keyed_edited (Insert kind it) keeps = keyed_put books keyed kind (key_in kind it) it refl
  keyed_edited (Replace kind it) keeps = keyed_put books keyed kind (key_in kind it) it refl
  keyed_edited (Update kind key into) keeps = keyed_updated kind key into keeps (get (records_of kind books) key) refl
  keyed_edited (Begin it) keeps = keyed_next (with_row Kind.Runs it books) (keyed_put books keyed Kind.Runs it.month it refl) (it.month + 1)
  keyed_edited Nothing keeps = keyed

  -- whatever the change
  pub keeps_keys : (rows : Change) → AreKeyed (changed rows books)
  keeps_keys rows = keyed_edited (edit_of rows) (keeps_key rows)

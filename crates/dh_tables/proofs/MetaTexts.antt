-- What the texts on meta mean.
use Rattle.std.proofs.Common.{ℕ, List, [], ◌∷◌, codes, pos, refl}
use Rattle.sqlite_value.specs.declared.value.Value.TheVariants.{Int, Null}
use Rattle.sqlite_value.specs.declared.keys.Collation.TheVariants.{Binary}
use Rattle.sqlite_sql.specs.declared.ops.BinaryOp.TheVariants.{Compare}
use Rattle.sqlite_sql.specs.declared.ops.CompareOp.TheVariants.{Eq}
use Rattle.sqlite_sql.specs.Term.{Term, lit, col, op2}
use Rattle.sqlite_tied.specs.Compute.{everything}
use Rattle.sqlite.specs.Listing.{understood}
use Rattle.dh_rows.specs.Months.{Months}
use Rattle.dh_rows.specs.MetaRows.{meta_row}
use Rattle.sqlite_schema.specs.declared.schema.Schema.{Schema}
use Rattle.dh_types.specs.declared.version.Version.TheVariants.{First}
use Rattle.dh_ddl.specs.Versions.{HasSince, of_both}
use Rattle.dh_ddl.specs.MetaTable.{meta}
use Rattle.dh_sql.specs.Texts.{IsInsertText, IsUpdateText}
use Rattle.dh_tables.specs.Commands.{Named, insert_text, rowid_first}
use Rattle.dh_tables.specs.Listing.{ListsRows}
use Rattle.dh_tables.specs.Tables.{own_rowid}

-- its columns by their names
abbrev pub meta_named : Named
meta_named = rowid_first meta

abbrev pub meta_inserts : List ℕ
meta_inserts = insert_text meta_named.table meta_named.names

pub meta_inserts_is : (s : Schema) → HasSince First s → (m : Months)
    → IsInsertText meta_inserts s 0 meta meta_named.put 5 (meta_row m) (own_rowid meta_row m ∷ [])
unfolding understood everything
meta_inserts_is = of_both (λ s. (m : Months) → IsInsertText meta_inserts s 0 meta meta_named.put 5 (meta_row m) (own_rowid meta_row m ∷ []))
    (λ m. record { command = refl; plain = (refl, refl); listed = refl; is_uncounted = refl; value = refl })
    (λ m. record { command = refl; plain = (refl, refl); listed = refl; is_uncounted = refl; value = refl })

pub meta_shown_is : (s : Schema) → HasSince First s → ListsRows 0 meta_named s
unfolding understood everything
meta_shown_is = of_both (ListsRows 0 meta_named)
    (record { command = refl; unlisted = refl; plain = (refl, refl); stored = λ db. refl })
    (record { command = refl; unlisted = refl; plain = (refl, refl); stored = λ db. refl })

abbrev pub meta_updates : List ℕ
meta_updates = codes "UPDATE meta SET next_month = ?1 WHERE id = 1"

abbrev pub meta_tests : List Term
meta_tests = op2 (Compare Eq Binary) (col 1 0) (lit (Int (pos 1))) ∷ []

abbrev pub meta_becomes : List Term
meta_becomes = col 1 0 ∷ col 1 0 ∷ lit Null ∷ col 1 2 ∷ col 1 3 ∷ col 0 0 ∷ []

pub meta_updates_is : (s : Schema) → HasSince First s → IsUpdateText meta_updates s 0 meta meta_tests meta_becomes
unfolding understood everything
meta_updates_is = of_both (λ s. IsUpdateText meta_updates s 0 meta meta_tests meta_becomes)
    (record { command = refl; plain = (refl, refl); listed = refl; stored = λ db. refl })
    (record { command = refl; plain = (refl, refl); listed = refl; stored = λ db. refl })

abbrev pub version_updates : List ℕ
version_updates = codes "UPDATE meta SET version = ?1 WHERE id = 1"

abbrev pub version_becomes : List Term
version_becomes = col 1 0 ∷ col 1 0 ∷ lit Null ∷ col 0 0 ∷ col 1 3 ∷ col 1 4 ∷ []

pub version_updates_is : (s : Schema) → HasSince First s → IsUpdateText version_updates s 0 meta meta_tests version_becomes
unfolding understood everything
version_updates_is = of_both (λ s. IsUpdateText version_updates s 0 meta meta_tests version_becomes)
    (record { command = refl; plain = (refl, refl); listed = refl; stored = λ db. refl })
    (record { command = refl; plain = (refl, refl); listed = refl; stored = λ db. refl })

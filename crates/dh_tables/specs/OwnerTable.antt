-- The table owner.
use Rattle.std.specs.Prelude.{refl, ℕ, List, [], ◌∷◌, codes, true}
use Rattle.sqlite_value.specs.declared.value.Value.TheVariants.{Null, Text}
use Rattle.sqlite_value.specs.Order.{Row, column}
use Rattle.sqlite_tied.specs.Compute.{everything}
use Rattle.sqlite.specs.Listing.{understood}
use Rattle.dh_values.specs.Texts.{is_id, is_text}
use Rattle.dh_types.specs.declared.owner.Owner.{Owner}
use Rattle.dh_model.specs.Checks.{is_same_text}
use Rattle.dh_rows.specs.OwnerRows.{owner_in, owner_row, is_owner_row}
use Rattle.dh_types.specs.declared.version.Version.TheVariants.{First}
use Rattle.dh_ddl.specs.Versions.{of_both}
use Rattle.dh_ddl.specs.OwnerTable.{owner}
use Rattle.dh_sql.specs.CellTests.{Cell}
use Rattle.dh_sql.specs.Shape.{Shape}
use Rattle.dh_sql.proofs.Casting.{cast_null, pass_each, row_stays}
use Rattle.dh_tables.specs.declared.owner.OwnerNumbered.{OwnerNumbered}
use Rattle.dh_tables.specs.Cells.{is_text as text_is, pass_one, same_text, text_that}
use Rattle.dh_tables.specs.Commands.{Named, rowid_apart}
use Rattle.dh_tables.specs.Listing.{IsListing, ListsRowids, ListsRows}
use Rattle.dh_tables.specs.Questions.{IsQuestion, IsSelected, Question, asking_by}
use Rattle.dh_tables.specs.Tables.{Adding, IsAdding, IsInsertOf, adding_to, without_rowid}

abbrev pub owner_columns : Row → Row
owner_columns row = column row 1 ∷ column row 2 ∷ column row 3 ∷ column row 4 ∷ []

abbrev pub owner_cells : List Cell
owner_cells = text_that is_id ∷ text_that (is_text 60) ∷ text_that (is_text 60) ∷ text_that (is_text 60) ∷ []

abbrev pub owner_shape : Shape (List ℕ) Owner
owner_shape = record { tree = 5; columns = owner_columns; is_row = is_owner_row; row_in = owner_in; key = λ o. o.number }

-- its columns by their names
abbrev pub owner_named : Named
owner_named = rowid_apart owner

-- ---- adding a row

abbrev pub owner_adding : Adding Owner
owner_adding = adding_to owner_named 3 owner (without_rowid owner_row)

pub owner_is_adding : IsAdding First owner_shape owner_row is_owner_row owner_adding
unfolding understood everything
owner_is_adding = record {
  tree_is = refl;
  listed = refl;
  inserts = of_both (IsInsertOf owner_row owner_adding)
      (λ x. record { command = refl; plain = (refl, refl); listed = refl; is_uncounted = refl; value = refl })
      (λ x. record { command = refl; plain = (refl, refl); listed = refl; is_uncounted = refl; value = refl });
  stays = λ x good. row_stays owner_cells owner Null (owner_row x) refl cast_null (pass_each owner_cells true (owner_row x) good).1;
  columns = λ x rows. refl;
  keyed = λ x rows. refl;
}

-- ---- the whole table

pub owner_is_listing : IsListing First 5 owner_columns owner_named
unfolding understood everything
owner_is_listing = record {
  selects = of_both (ListsRows 5 owner_named)
      (record { command = refl; unlisted = refl; plain = (refl, refl); stored = λ db. refl })
      (record { command = refl; unlisted = refl; plain = (refl, refl); stored = λ db. refl });
  shows_columns = λ r. refl;
  selects_rowid = of_both (ListsRowids 5 owner_named)
      (record { command = refl; unlisted = refl; plain = (refl, refl); stored = λ db. refl })
      (record { command = refl; unlisted = refl; plain = (refl, refl); stored = λ db. refl });
}

-- ---- the owner with a number

abbrev pub owner_numbered : Question OwnerNumbered Owner
owner_numbered = record {
  asking = asking_by owner_named (codes "owner_no" ∷ []) (1 ∷ []);
  given = λ q. Text q.number ∷ [];
  asks = λ q o. is_same_text o.number q.number;
}

pub owner_numbered_is : IsQuestion First owner_shape owner_numbered
unfolding understood everything
owner_numbered_is = record {
  selects = of_both (IsSelected 5 owner_numbered.asking)
      (record { command = refl; unlisted = refl; plain = (refl, refl); stored = λ db. refl })
      (record { command = refl; unlisted = refl; plain = (refl, refl); stored = λ db. refl });
  shows_columns = λ q r. refl;
  passes = λ q r known good.
      let cells = (pass_each owner_cells true (owner_columns r) good).1 in
      pass_one (same_text (column r 1) q.number (text_is is_id (column r 1) cells.0));
}

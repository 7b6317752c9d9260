-- The table viewing.
use Rattle.std.specs.Prelude.{refl, ℕ, List, [], ◌∷◌, codes, true, ◌&&◌}
use Rattle.sqlite_value.specs.declared.value.Value.TheVariants.{Null, Text}
use Rattle.sqlite_value.specs.Order.{Row, column}
use Rattle.sqlite_tied.specs.Compute.{everything}
use Rattle.sqlite.specs.Listing.{understood}
use Rattle.dh_values.specs.Texts.{is_id, is_text}
use Rattle.dh_days.specs.Days.{day_of}
use Rattle.dh_types.specs.declared.viewing.Viewing.{Viewing}
use Rattle.dh_model.specs.Checks.{is_same_text}
use Rattle.dh_rows.specs.ViewingRows.{viewing_in, viewing_row, is_viewing_row}
use Rattle.dh_types.specs.declared.version.Version.TheVariants.{First}
use Rattle.dh_ddl.specs.Versions.{of_both}
use Rattle.dh_ddl.specs.ViewingTable.{viewing}
use Rattle.dh_sql.specs.CellTests.{Cell}
use Rattle.dh_sql.specs.Shape.{Shape}
use Rattle.dh_sql.proofs.Casting.{cast_null, pass_each, row_stays}
use Rattle.dh_tables.specs.declared.viewing.ViewingOf.{ViewingOf}
use Rattle.dh_tables.specs.Cells.{is_text as text_is, optional_text_that, pass_both, read_as, same_text, text_that}
use Rattle.dh_tables.specs.Commands.{Named, rowid_apart}
use Rattle.dh_tables.specs.Listing.{IsListing, ListsRowids, ListsRows}
use Rattle.dh_tables.specs.Questions.{IsQuestion, IsSelected, Question, asking_by}
use Rattle.dh_tables.specs.Tables.{Adding, IsAdding, IsInsertOf, adding_to, without_rowid}

abbrev pub viewing_columns : Row → Row
viewing_columns row = column row 1 ∷ column row 2 ∷ column row 3 ∷ column row 4 ∷ []

abbrev pub viewing_cells : List Cell
viewing_cells = text_that is_id ∷ text_that is_id ∷ read_as day_of ∷ optional_text_that (is_text 200) ∷ []

abbrev pub viewing_shape : Shape (List ℕ × List ℕ) Viewing
viewing_shape = record { tree = 13; columns = viewing_columns; is_row = is_viewing_row; row_in = viewing_in; key = λ v. (v.client, v.property) }

-- its columns by their names
abbrev pub viewing_named : Named
viewing_named = rowid_apart viewing

-- ---- adding a row

abbrev pub viewing_adding : Adding Viewing
viewing_adding = adding_to viewing_named 7 viewing (without_rowid viewing_row)

pub viewing_is_adding : IsAdding First viewing_shape viewing_row is_viewing_row viewing_adding
unfolding understood everything
viewing_is_adding = record {
  tree_is = refl;
  listed = refl;
  inserts = of_both (IsInsertOf viewing_row viewing_adding)
      (λ x. record { command = refl; plain = (refl, refl); listed = refl; is_uncounted = refl; value = refl })
      (λ x. record { command = refl; plain = (refl, refl); listed = refl; is_uncounted = refl; value = refl });
  stays = λ x good. row_stays viewing_cells viewing Null (viewing_row x) refl cast_null (pass_each viewing_cells true (viewing_row x) good).1;
  columns = λ x rows. refl;
  keyed = λ x rows. refl;
}

-- ---- the whole table

pub viewing_is_listing : IsListing First 13 viewing_columns viewing_named
unfolding understood everything
viewing_is_listing = record {
  selects = of_both (ListsRows 13 viewing_named)
      (record { command = refl; unlisted = refl; plain = (refl, refl); stored = λ db. refl })
      (record { command = refl; unlisted = refl; plain = (refl, refl); stored = λ db. refl });
  shows_columns = λ r. refl;
  selects_rowid = of_both (ListsRowids 13 viewing_named)
      (record { command = refl; unlisted = refl; plain = (refl, refl); stored = λ db. refl })
      (record { command = refl; unlisted = refl; plain = (refl, refl); stored = λ db. refl });
}

-- ---- the viewing of a property by a client

abbrev pub viewing_of : Question ViewingOf Viewing
viewing_of = record {
  asking = asking_by viewing_named (codes "client_no" ∷ codes "property_no" ∷ []) (1 ∷ 2 ∷ []);
  given = λ q. Text q.client ∷ Text q.property ∷ [];
  asks = λ q v. is_same_text v.client q.client && is_same_text v.property q.property;
}

pub viewing_of_is : IsQuestion First viewing_shape viewing_of
unfolding understood everything
viewing_of_is = record {
  selects = of_both (IsSelected 13 viewing_of.asking)
      (record { command = refl; unlisted = refl; plain = (refl, refl); stored = λ db. refl })
      (record { command = refl; unlisted = refl; plain = (refl, refl); stored = λ db. refl });
  shows_columns = λ q r. refl;
  passes = λ q r known good.
      let cells = (pass_each viewing_cells true (viewing_columns r) good).1 in
      pass_both (same_text (column r 1) q.client (text_is is_id (column r 1) cells.0))
      (same_text (column r 2) q.property (text_is is_id (column r 2) cells.1.0));
}

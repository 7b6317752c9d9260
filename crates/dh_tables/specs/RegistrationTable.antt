-- The table registration.
use Rattle.std.specs.Prelude.{refl, ℕ, List, [], ◌∷◌, codes, true, ◌&&◌}
use Rattle.sqlite_value.specs.declared.value.Value.TheVariants.{Null, Text}
use Rattle.sqlite_value.specs.Order.{Row, column}
use Rattle.sqlite_tied.specs.Compute.{everything}
use Rattle.sqlite.specs.Listing.{understood}
use Rattle.dh_values.specs.Texts.{is_id}
use Rattle.dh_days.specs.Days.{day_of}
use Rattle.dh_types.specs.declared.client.Registration.{Registration}
use Rattle.dh_model.specs.Checks.{is_same_text}
use Rattle.dh_rows.specs.RegistrationRows.{registration_in, registration_row, is_registration_row}
use Rattle.dh_types.specs.declared.version.Version.TheVariants.{First}
use Rattle.dh_ddl.specs.Versions.{of_both}
use Rattle.dh_ddl.specs.RegistrationTable.{registration}
use Rattle.dh_sql.specs.CellTests.{Cell}
use Rattle.dh_sql.specs.Shape.{Shape}
use Rattle.dh_sql.proofs.Casting.{cast_null, pass_each, row_stays}
use Rattle.dh_tables.specs.declared.registration.RegistrationAt.{RegistrationAt}
use Rattle.dh_tables.specs.Cells.{is_text as text_is, pass_both, read_as, same_text, text_that}
use Rattle.dh_tables.specs.Commands.{Named, rowid_apart}
use Rattle.dh_tables.specs.Listing.{IsListing, ListsRowids, ListsRows}
use Rattle.dh_tables.specs.Questions.{IsQuestion, IsSelected, Question, asking_by}
use Rattle.dh_tables.specs.Tables.{Adding, IsAdding, IsInsertOf, adding_to, without_rowid}

abbrev pub registration_columns : Row → Row
registration_columns row = column row 1 ∷ column row 2 ∷ column row 3 ∷ column row 4 ∷ []

abbrev pub registration_cells : List Cell
registration_cells = text_that is_id ∷ text_that is_id ∷ text_that is_id ∷ read_as day_of ∷ []

abbrev pub registration_shape : Shape (List ℕ × List ℕ) Registration
registration_shape = record {
  tree = 11;
  columns = registration_columns;
  is_row = is_registration_row;
  row_in = registration_in;
  key = λ r. (r.client, r.branch);
}

-- its columns by their names
abbrev pub registration_named : Named
registration_named = rowid_apart registration

-- ---- adding a row

abbrev pub registration_adding : Adding Registration
registration_adding = adding_to registration_named 6 registration (without_rowid registration_row)

pub registration_is_adding : IsAdding First registration_shape registration_row is_registration_row registration_adding
unfolding understood everything
registration_is_adding = record {
  tree_is = refl;
  listed = refl;
  inserts = of_both (IsInsertOf registration_row registration_adding)
      (λ x. record { command = refl; plain = (refl, refl); listed = refl; is_uncounted = refl; value = refl })
      (λ x. record { command = refl; plain = (refl, refl); listed = refl; is_uncounted = refl; value = refl });
  stays = λ x good.
      row_stays registration_cells registration Null (registration_row x) refl cast_null (pass_each registration_cells true (registration_row x) good).1;
  columns = λ x rows. refl;
  keyed = λ x rows. refl;
}

-- ---- the whole table

pub registration_is_listing : IsListing First 11 registration_columns registration_named
unfolding understood everything
registration_is_listing = record {
  selects = of_both (ListsRows 11 registration_named)
      (record { command = refl; unlisted = refl; plain = (refl, refl); stored = λ db. refl })
      (record { command = refl; unlisted = refl; plain = (refl, refl); stored = λ db. refl });
  shows_columns = λ r. refl;
  selects_rowid = of_both (ListsRowids 11 registration_named)
      (record { command = refl; unlisted = refl; plain = (refl, refl); stored = λ db. refl })
      (record { command = refl; unlisted = refl; plain = (refl, refl); stored = λ db. refl });
}

-- ---- the registration of a client at a branch

abbrev pub registration_at : Question RegistrationAt Registration
registration_at = record {
  asking = asking_by registration_named (codes "client_no" ∷ codes "branch_no" ∷ []) (1 ∷ 2 ∷ []);
  given = λ q. Text q.client ∷ Text q.branch ∷ [];
  asks = λ q r. is_same_text r.client q.client && is_same_text r.branch q.branch;
}

pub registration_at_is : IsQuestion First registration_shape registration_at
unfolding understood everything
registration_at_is = record {
  selects = of_both (IsSelected 11 registration_at.asking)
      (record { command = refl; unlisted = refl; plain = (refl, refl); stored = λ db. refl })
      (record { command = refl; unlisted = refl; plain = (refl, refl); stored = λ db. refl });
  shows_columns = λ q r. refl;
  passes = λ q r known good.
      let cells = (pass_each registration_cells true (registration_columns r) good).1 in
      pass_both (same_text (column r 1) q.client (text_is is_id (column r 1) cells.0))
      (same_text (column r 2) q.branch (text_is is_id (column r 2) cells.1.0));
}

-- The table client.
use Rattle.std.specs.Prelude.{refl, ℕ, List, [], ◌∷◌, codes, true}
use Rattle.sqlite_value.specs.declared.value.Value.TheVariants.{Null, Text}
use Rattle.sqlite_value.specs.Order.{Row, column}
use Rattle.sqlite_tied.specs.Compute.{everything}
use Rattle.sqlite.specs.Listing.{understood}
use Rattle.dh_values.specs.Texts.{is_id, is_text}
use Rattle.dh_values.specs.Kinds.{property_type_of}
use Rattle.dh_values.specs.declared.limits.TheConstants.{MOST_RENT}
use Rattle.dh_types.specs.declared.client.Client.{Client}
use Rattle.dh_model.specs.Checks.{is_same_text}
use Rattle.dh_rows.specs.ClientRows.{client_in, client_row, is_client_row}
use Rattle.dh_types.specs.declared.version.Version.TheVariants.{First}
use Rattle.dh_ddl.specs.Versions.{of_both}
use Rattle.dh_ddl.specs.ClientTable.{client}
use Rattle.dh_sql.specs.CellTests.{Cell}
use Rattle.dh_sql.specs.Shape.{Shape}
use Rattle.dh_sql.proofs.Casting.{cast_null, pass_each, row_stays}
use Rattle.dh_tables.specs.declared.client.ClientNumbered.{ClientNumbered}
use Rattle.dh_tables.specs.Cells.{is_text as text_is, number_from, pass_one, read_as, same_text, text_that}
use Rattle.dh_tables.specs.Commands.{Named, rowid_apart}
use Rattle.dh_tables.specs.Listing.{IsListing, ListsRowids, ListsRows}
use Rattle.dh_tables.specs.Questions.{IsQuestion, IsSelected, Question, asking_by}
use Rattle.dh_tables.specs.Tables.{Adding, IsAdding, IsInsertOf, adding_to, without_rowid}

abbrev pub client_columns : Row → Row
client_columns row = column row 1 ∷ column row 2 ∷ column row 3 ∷ column row 4 ∷ column row 5 ∷ []

abbrev pub client_cells : List Cell
client_cells = text_that is_id ∷ text_that (is_text 60) ∷ text_that (is_text 60) ∷ read_as property_type_of ∷ number_from 1 MOST_RENT ∷ []

abbrev pub client_shape : Shape (List ℕ) Client
client_shape = record { tree = 9; columns = client_columns; is_row = is_client_row; row_in = client_in; key = λ c. c.number }

-- its columns by their names
abbrev pub client_named : Named
client_named = rowid_apart client

-- ---- adding a row

abbrev pub client_adding : Adding Client
client_adding = adding_to client_named 5 client (without_rowid client_row)

pub client_is_adding : IsAdding First client_shape client_row is_client_row client_adding
unfolding understood everything
client_is_adding = record {
  tree_is = refl;
  listed = refl;
  inserts = of_both (IsInsertOf client_row client_adding)
      (λ x. record { command = refl; plain = (refl, refl); listed = refl; is_uncounted = refl; value = refl })
      (λ x. record { command = refl; plain = (refl, refl); listed = refl; is_uncounted = refl; value = refl });
  stays = λ x good. row_stays client_cells client Null (client_row x) refl cast_null (pass_each client_cells true (client_row x) good).1;
  columns = λ x rows. refl;
  keyed = λ x rows. refl;
}

-- ---- the whole table

pub client_is_listing : IsListing First 9 client_columns client_named
unfolding understood everything
client_is_listing = record {
  selects = of_both (ListsRows 9 client_named)
      (record { command = refl; unlisted = refl; plain = (refl, refl); stored = λ db. refl })
      (record { command = refl; unlisted = refl; plain = (refl, refl); stored = λ db. refl });
  shows_columns = λ r. refl;
  selects_rowid = of_both (ListsRowids 9 client_named)
      (record { command = refl; unlisted = refl; plain = (refl, refl); stored = λ db. refl })
      (record { command = refl; unlisted = refl; plain = (refl, refl); stored = λ db. refl });
}

-- ---- the client with a number

abbrev pub client_numbered : Question ClientNumbered Client
client_numbered = record {
  asking = asking_by client_named (codes "client_no" ∷ []) (1 ∷ []);
  given = λ q. Text q.number ∷ [];
  asks = λ q c. is_same_text c.number q.number;
}

pub client_numbered_is : IsQuestion First client_shape client_numbered
unfolding understood everything
client_numbered_is = record {
  selects = of_both (IsSelected 9 client_numbered.asking)
      (record { command = refl; unlisted = refl; plain = (refl, refl); stored = λ db. refl })
      (record { command = refl; unlisted = refl; plain = (refl, refl); stored = λ db. refl });
  shows_columns = λ q r. refl;
  passes = λ q r known good.
      let cells = (pass_each client_cells true (client_columns r) good).1 in
      pass_one (same_text (column r 1) q.number (text_is is_id (column r 1) cells.0));
}

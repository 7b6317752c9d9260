-- The table staff.
use Rattle.std.specs.Prelude.{refl, ℕ, List, [], ◌∷◌, codes, true}
use Rattle.sqlite_value.specs.declared.value.Value.TheVariants.{Null, Text}
use Rattle.sqlite_value.specs.Order.{Row, column}
use Rattle.sqlite_tied.specs.Compute.{everything}
use Rattle.sqlite.specs.Listing.{understood}
use Rattle.dh_values.specs.Texts.{is_id, is_text}
use Rattle.dh_values.specs.Kinds.{position_of}
use Rattle.dh_types.specs.declared.staff.Staff.{Staff}
use Rattle.dh_model.specs.Checks.{is_same_text}
use Rattle.dh_rows.specs.StaffRows.{staff_in, staff_row, is_staff_row}
use Rattle.dh_types.specs.declared.version.Version.TheVariants.{First}
use Rattle.dh_ddl.specs.Versions.{of_both}
use Rattle.dh_ddl.specs.StaffTable.{staff}
use Rattle.dh_sql.specs.CellTests.{Cell}
use Rattle.dh_sql.specs.Shape.{Shape}
use Rattle.dh_sql.proofs.Casting.{cast_null, pass_each, row_stays}
use Rattle.dh_tables.specs.declared.staff.MemberNumbered.{MemberNumbered}
use Rattle.dh_tables.specs.Cells.{is_text as text_is, pass_one, read_as, same_text, text_that}
use Rattle.dh_tables.specs.Commands.{Named, rowid_apart}
use Rattle.dh_tables.specs.Listing.{IsListing, ListsRowids, ListsRows}
use Rattle.dh_tables.specs.Questions.{IsQuestion, IsSelected, Question, asking_by}
use Rattle.dh_tables.specs.Tables.{Adding, IsAdding, IsInsertOf, adding_to, without_rowid}

abbrev pub staff_columns : Row → Row
staff_columns row = column row 1 ∷ column row 2 ∷ column row 3 ∷ column row 4 ∷ []

abbrev pub staff_cells : List Cell
staff_cells = text_that is_id ∷ text_that (is_text 60) ∷ read_as position_of ∷ text_that is_id ∷ []

abbrev pub staff_shape : Shape (List ℕ) Staff
staff_shape = record { tree = 3; columns = staff_columns; is_row = is_staff_row; row_in = staff_in; key = λ s. s.number }

-- its columns by their names
abbrev pub staff_named : Named
staff_named = rowid_apart staff

-- ---- adding a row

abbrev pub staff_adding : Adding Staff
staff_adding = adding_to staff_named 2 staff (without_rowid staff_row)

pub staff_is_adding : IsAdding First staff_shape staff_row is_staff_row staff_adding
unfolding understood everything
staff_is_adding = record {
  tree_is = refl;
  listed = refl;
  inserts = of_both (IsInsertOf staff_row staff_adding)
      (λ x. record { command = refl; plain = (refl, refl); listed = refl; is_uncounted = refl; value = refl })
      (λ x. record { command = refl; plain = (refl, refl); listed = refl; is_uncounted = refl; value = refl });
  stays = λ x good. row_stays staff_cells staff Null (staff_row x) refl cast_null (pass_each staff_cells true (staff_row x) good).1;
  columns = λ x rows. refl;
  keyed = λ x rows. refl;
}

-- ---- the whole table

pub staff_is_listing : IsListing First 3 staff_columns staff_named
unfolding understood everything
staff_is_listing = record {
  selects = of_both (ListsRows 3 staff_named)
      (record { command = refl; unlisted = refl; plain = (refl, refl); stored = λ db. refl })
      (record { command = refl; unlisted = refl; plain = (refl, refl); stored = λ db. refl });
  shows_columns = λ r. refl;
  selects_rowid = of_both (ListsRowids 3 staff_named)
      (record { command = refl; unlisted = refl; plain = (refl, refl); stored = λ db. refl })
      (record { command = refl; unlisted = refl; plain = (refl, refl); stored = λ db. refl });
}

-- ---- the member of staff with a number

abbrev pub member_numbered : Question MemberNumbered Staff
member_numbered = record {
  asking = asking_by staff_named (codes "staff_no" ∷ []) (1 ∷ []);
  given = λ q. Text q.number ∷ [];
  asks = λ q s. is_same_text s.number q.number;
}

pub member_numbered_is : IsQuestion First staff_shape member_numbered
unfolding understood everything
member_numbered_is = record {
  selects = of_both (IsSelected 3 member_numbered.asking)
      (record { command = refl; unlisted = refl; plain = (refl, refl); stored = λ db. refl })
      (record { command = refl; unlisted = refl; plain = (refl, refl); stored = λ db. refl });
  shows_columns = λ q r. refl;
  passes = λ q r known good.
      let cells = (pass_each staff_cells true (staff_columns r) good).1 in
      pass_one (same_text (column r 1) q.number (text_is is_id (column r 1) cells.0));
}

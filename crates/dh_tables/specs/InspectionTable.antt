-- The table inspection.
use Rattle.std.specs.Prelude.{refl, ℕ, List, [], ◌∷◌, codes, true, nat_eq, ◌&&◌}
use Rattle.sqlite_value.specs.declared.value.Value.TheVariants.{Null, Text}
use Rattle.sqlite_value.specs.Order.{Row, column}
use Rattle.sqlite_tied.specs.Compute.{everything}
use Rattle.sqlite.specs.Listing.{understood}
use Rattle.dh_values.specs.Texts.{is_id, is_text}
use Rattle.dh_days.specs.Days.{IsEntryDay, day_of, day_text}
use Rattle.dh_types.specs.declared.viewing.Inspection.{Inspection}
use Rattle.dh_model.specs.Checks.{is_same_text}
use Rattle.dh_rows.specs.InspectionRows.{inspection_in, inspection_row, is_inspection_row}
use Rattle.dh_types.specs.declared.version.Version.TheVariants.{First}
use Rattle.dh_ddl.specs.Versions.{of_both}
use Rattle.dh_ddl.specs.InspectionTable.{inspection}
use Rattle.dh_sql.specs.CellTests.{Cell}
use Rattle.dh_sql.specs.Shape.{Shape}
use Rattle.dh_sql.proofs.Casting.{cast_null, pass_each, row_stays}
use Rattle.dh_tables.specs.declared.inspection.InspectionOf.{InspectionOf}
use Rattle.dh_tables.specs.Cells.{is_text as text_is, pass_both, read_as, same_day, same_text, text_that}
use Rattle.dh_tables.specs.Commands.{Named, rowid_apart}
use Rattle.dh_tables.specs.Listing.{IsListing, ListsRowids, ListsRows}
use Rattle.dh_tables.specs.Questions.{Asking, IsAsking, IsSelected, asking_by}
use Rattle.dh_tables.specs.Tables.{Adding, IsAdding, IsInsertOf, adding_to, without_rowid}

abbrev pub inspection_columns : Row → Row
inspection_columns row = column row 1 ∷ column row 2 ∷ column row 3 ∷ column row 4 ∷ []

abbrev pub inspection_cells : List Cell
inspection_cells = text_that is_id ∷ read_as day_of ∷ text_that is_id ∷ text_that (is_text 200) ∷ []

abbrev pub inspection_shape : Shape (List ℕ × ℕ) Inspection
inspection_shape = record { tree = 15; columns = inspection_columns; is_row = is_inspection_row; row_in = inspection_in; key = λ n. (n.property, n.day) }

-- its columns by their names
abbrev pub inspection_named : Named
inspection_named = rowid_apart inspection

-- ---- adding a row

abbrev pub inspection_adding : Adding Inspection
inspection_adding = adding_to inspection_named 8 inspection (without_rowid inspection_row)

pub inspection_is_adding : IsAdding First inspection_shape inspection_row is_inspection_row inspection_adding
unfolding understood everything
inspection_is_adding = record {
  tree_is = refl;
  listed = refl;
  inserts = of_both (IsInsertOf inspection_row inspection_adding)
      (λ x. record { command = refl; plain = (refl, refl); listed = refl; is_uncounted = refl; value = refl })
      (λ x. record { command = refl; plain = (refl, refl); listed = refl; is_uncounted = refl; value = refl });
  stays = λ x good.
      row_stays inspection_cells inspection Null (inspection_row x) refl cast_null (pass_each inspection_cells true (inspection_row x) good).1;
  columns = λ x rows. refl;
  keyed = λ x rows. refl;
}

-- ---- the whole table

pub inspection_is_listing : IsListing First 15 inspection_columns inspection_named
unfolding understood everything
inspection_is_listing = record {
  selects = of_both (ListsRows 15 inspection_named)
      (record { command = refl; unlisted = refl; plain = (refl, refl); stored = λ db. refl })
      (record { command = refl; unlisted = refl; plain = (refl, refl); stored = λ db. refl });
  shows_columns = λ r. refl;
  selects_rowid = of_both (ListsRowids 15 inspection_named)
      (record { command = refl; unlisted = refl; plain = (refl, refl); stored = λ db. refl })
      (record { command = refl; unlisted = refl; plain = (refl, refl); stored = λ db. refl });
}

-- ---- the inspection of a property on a day

abbrev pub inspection_of : Asking
inspection_of = asking_by inspection_named (codes "property_no" ∷ codes "day" ∷ []) (1 ∷ 2 ∷ [])

pub inspection_of_is : IsAsking First inspection_shape inspection_of
    (λ (q : InspectionOf). IsEntryDay q.day) (λ q. Text q.property ∷ Text (day_text q.day) ∷ [])
    (λ q n. is_same_text n.property q.property && nat_eq n.day q.day)
unfolding understood everything
inspection_of_is = record {
  selects = of_both (IsSelected 15 inspection_of)
      (record { command = refl; unlisted = refl; plain = (refl, refl); stored = λ db. refl })
      (record { command = refl; unlisted = refl; plain = (refl, refl); stored = λ db. refl });
  shows_columns = λ q r. refl;
  passes = λ q r known good.
      let cells = (pass_each inspection_cells true (inspection_columns r) good).1 in
      pass_both (same_text (column r 1) q.property (text_is is_id (column r 1) cells.0))
      (same_day (column r 2) q.day known cells.1.0);
}

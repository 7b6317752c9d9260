-- The table part.
use Rattle.std.specs.Prelude.{refl, ℕ, List, [], ◌∷◌, codes, true, pos, nat_eq, ◌&&◌}
use Rattle.sqlite_value.specs.declared.value.Value.TheVariants.{Int, Null, Text}
use Rattle.sqlite_value.specs.Order.{Row, column}
use Rattle.sqlite_tied.specs.Compute.{everything}
use Rattle.sqlite.specs.Listing.{understood}
use Rattle.dh_values.specs.Texts.{is_id}
use Rattle.dh_values.specs.declared.limits.TheConstants.{MOST_NUMBER, MOST_PENCE}
use Rattle.dh_days.specs.declared.limits.TheConstants.{FIRST_MONTH, LAST_ENTRY_MONTH}
use Rattle.dh_types.specs.declared.run.Part.{Part}
use Rattle.dh_model.specs.Checks.{is_same_text}
use Rattle.dh_rows.specs.declared.limits.TheConstants.{MOST_COUNT}
use Rattle.dh_rows.specs.PartRows.{part_in, part_row, is_part_row}
use Rattle.dh_types.specs.declared.version.Version.TheVariants.{First}
use Rattle.dh_ddl.specs.Versions.{of_both}
use Rattle.dh_ddl.specs.PartTable.{part}
use Rattle.dh_sql.specs.CellTests.{Cell}
use Rattle.dh_sql.specs.Shape.{Shape}
use Rattle.dh_sql.proofs.Casting.{cast_null, pass_each, row_stays}
use Rattle.dh_tables.specs.declared.part.PartOf.{PartOf}
use Rattle.dh_tables.specs.declared.part.PartsOfMonth.{PartsOfMonth}
use Rattle.dh_tables.specs.Cells.{is_number, is_text as text_is, number_from, pass_both, pass_one, same_number, same_text, text_that}
use Rattle.dh_tables.specs.Commands.{Named, rowid_apart}
use Rattle.dh_tables.specs.Listing.{IsListing, ListsRowids, ListsRows}
use Rattle.dh_tables.specs.Questions.{IsQuestion, IsSelected, Question, asking_by}
use Rattle.dh_tables.specs.Tables.{Adding, IsAdding, IsInsertOf, adding_to, without_rowid}

abbrev pub part_columns : Row → Row
part_columns row = column row 1 ∷ column row 2 ∷ column row 3 ∷ column row 4 ∷ column row 5 ∷ []

abbrev pub part_cells : List Cell
part_cells =
    number_from FIRST_MONTH LAST_ENTRY_MONTH ∷ text_that is_id ∷ number_from 0 MOST_NUMBER ∷ number_from 0 MOST_COUNT ∷ number_from 0 MOST_PENCE ∷ []

abbrev pub part_shape : Shape (ℕ × List ℕ) Part
part_shape = record { tree = 24; columns = part_columns; is_row = is_part_row; row_in = part_in; key = λ p. (p.month, p.branch) }

-- its columns by their names
abbrev pub part_named : Named
part_named = rowid_apart part

-- ---- adding a row

abbrev pub part_adding : Adding Part
part_adding = adding_to part_named 13 part (without_rowid part_row)

pub part_is_adding : IsAdding First part_shape part_row is_part_row part_adding
unfolding understood everything
part_is_adding = record {
  tree_is = refl;
  listed = refl;
  inserts = of_both (IsInsertOf part_row part_adding)
      (λ x. record { command = refl; plain = (refl, refl); listed = refl; is_uncounted = refl; value = refl })
      (λ x. record { command = refl; plain = (refl, refl); listed = refl; is_uncounted = refl; value = refl });
  stays = λ x good. row_stays part_cells part Null (part_row x) refl cast_null (pass_each part_cells true (part_row x) good).1;
  columns = λ x rows. refl;
  keyed = λ x rows. refl;
}

-- ---- the whole table

pub part_is_listing : IsListing First 24 part_columns part_named
unfolding understood everything
part_is_listing = record {
  selects = of_both (ListsRows 24 part_named)
      (record { command = refl; unlisted = refl; plain = (refl, refl); stored = λ db. refl })
      (record { command = refl; unlisted = refl; plain = (refl, refl); stored = λ db. refl });
  shows_columns = λ r. refl;
  selects_rowid = of_both (ListsRowids 24 part_named)
      (record { command = refl; unlisted = refl; plain = (refl, refl); stored = λ db. refl })
      (record { command = refl; unlisted = refl; plain = (refl, refl); stored = λ db. refl });
}

-- ---- the part of a run at a branch

abbrev pub part_of : Question PartOf Part
part_of = record {
  asking = asking_by part_named (codes "month" ∷ codes "branch_no" ∷ []) (1 ∷ 2 ∷ []);
  given = λ q. Int (pos q.month) ∷ Text q.branch ∷ [];
  asks = λ q p. nat_eq p.month q.month && is_same_text p.branch q.branch;
}

pub part_of_is : IsQuestion First part_shape part_of
unfolding understood everything
part_of_is = record {
  selects = of_both (IsSelected 24 part_of.asking)
      (record { command = refl; unlisted = refl; plain = (refl, refl); stored = λ db. refl })
      (record { command = refl; unlisted = refl; plain = (refl, refl); stored = λ db. refl });
  shows_columns = λ q r. refl;
  passes = λ q r known good.
      let cells = (pass_each part_cells true (part_columns r) good).1 in
      pass_both (same_number (column r 1) q.month (is_number FIRST_MONTH LAST_ENTRY_MONTH (column r 1) cells.0))
      (same_text (column r 2) q.branch (text_is is_id (column r 2) cells.1.0));
}

-- ---- the parts of the run of a month

abbrev pub parts_of_month : Question PartsOfMonth Part
parts_of_month = record {
  asking = asking_by part_named (codes "month" ∷ []) (1 ∷ []);
  given = λ q. Int (pos q.month) ∷ [];
  asks = λ q p. nat_eq p.month q.month;
}

pub parts_of_month_is : IsQuestion First part_shape parts_of_month
unfolding understood everything
parts_of_month_is = record {
  selects = of_both (IsSelected 24 parts_of_month.asking)
      (record { command = refl; unlisted = refl; plain = (refl, refl); stored = λ db. refl })
      (record { command = refl; unlisted = refl; plain = (refl, refl); stored = λ db. refl });
  shows_columns = λ q r. refl;
  passes = λ q r known good.
      let cells = (pass_each part_cells true (part_columns r) good).1 in
      pass_one (same_number (column r 1) q.month (is_number FIRST_MONTH LAST_ENTRY_MONTH (column r 1) cells.0));
}

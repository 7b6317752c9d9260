-- The table part_fee, which came with the second version.
use Rattle.std.specs.Prelude.{refl, ℕ, List, [], ◌∷◌, codes, true, pos, nat_eq, ◌&&◌}
use Rattle.sqlite_value.specs.declared.value.Value.TheVariants.{Int, Null, Text}
use Rattle.sqlite_value.specs.Order.{Row, column}
use Rattle.sqlite_tied.specs.Compute.{everything}
use Rattle.sqlite.specs.Listing.{understood}
use Rattle.dh_values.specs.Texts.{is_id}
use Rattle.dh_values.specs.declared.limits.TheConstants.{MOST_FEE, MOST_PENCE}
use Rattle.dh_days.specs.declared.limits.TheConstants.{FIRST_MONTH, LAST_ENTRY_MONTH}
use Rattle.dh_types.specs.declared.fee.PartFee.{PartFee}
use Rattle.dh_model.specs.Checks.{is_same_text}
use Rattle.dh_rows.specs.PartFeeRows.{is_part_fee_row, part_fee_in, part_fee_row}
use Rattle.dh_types.specs.declared.version.Version.TheVariants.{Second}
use Rattle.dh_ddl.specs.Versions.{of_second}
use Rattle.dh_ddl.specs.PartFeeTable.{part_fee}
use Rattle.dh_sql.specs.CellTests.{Cell}
use Rattle.dh_sql.specs.Shape.{Shape}
use Rattle.dh_sql.proofs.Casting.{cast_null, pass_each, row_stays}
use Rattle.dh_tables.specs.declared.part_fee.FeeOfPart.{FeeOfPart}
use Rattle.dh_tables.specs.declared.part_fee.FeesOfMonth.{FeesOfMonth}
use Rattle.dh_tables.specs.Cells.{is_number, is_text as text_is, number_from, pass_both, pass_one, same_number, same_text, text_that}
use Rattle.dh_tables.specs.Commands.{Named, rowid_apart}
use Rattle.dh_tables.specs.Listing.{IsListing, ListsRowids, ListsRows}
use Rattle.dh_tables.specs.Questions.{IsQuestion, IsSelected, Question, asking_by}
use Rattle.dh_tables.specs.Tables.{Adding, IsAdding, IsInsertOf, adding_to, without_rowid}

abbrev pub part_fee_columns : Row → Row
part_fee_columns row = column row 1 ∷ column row 2 ∷ column row 3 ∷ column row 4 ∷ []

abbrev pub part_fee_cells : List Cell
part_fee_cells = number_from FIRST_MONTH LAST_ENTRY_MONTH ∷ text_that is_id ∷ number_from 0 MOST_FEE ∷ number_from 0 MOST_PENCE ∷ []

abbrev pub part_fee_shape : Shape (ℕ × List ℕ) PartFee
part_fee_shape = record { tree = 28; columns = part_fee_columns; is_row = is_part_fee_row; row_in = part_fee_in; key = λ it. (it.month, it.branch) }

-- its columns by their names
abbrev pub part_fee_named : Named
part_fee_named = rowid_apart part_fee

-- ---- adding a row

abbrev pub part_fee_adding : Adding PartFee
part_fee_adding = adding_to part_fee_named 15 part_fee (without_rowid part_fee_row)

pub part_fee_is_adding : IsAdding Second part_fee_shape part_fee_row is_part_fee_row part_fee_adding
unfolding understood everything
part_fee_is_adding = record {
  tree_is = refl;
  listed = refl;
  inserts = of_second (IsInsertOf part_fee_row part_fee_adding)
      (λ x. record { command = refl; plain = (refl, refl); listed = refl; is_uncounted = refl; value = refl });
  stays = λ x good. row_stays part_fee_cells part_fee Null (part_fee_row x) refl cast_null (pass_each part_fee_cells true (part_fee_row x) good).1;
  columns = λ x rows. refl;
  keyed = λ x rows. refl;
}

-- ---- the whole table

pub part_fee_is_listing : IsListing Second 28 part_fee_columns part_fee_named
unfolding understood everything
part_fee_is_listing = record {
  selects = of_second (ListsRows 28 part_fee_named)
      (record { command = refl; unlisted = refl; plain = (refl, refl); stored = λ db. refl });
  shows_columns = λ r. refl;
  selects_rowid = of_second (ListsRowids 28 part_fee_named)
      (record { command = refl; unlisted = refl; plain = (refl, refl); stored = λ db. refl });
}

-- ---- the fee of a part

abbrev pub fee_of_part : Question FeeOfPart PartFee
fee_of_part = record {
  asking = asking_by part_fee_named (codes "month" ∷ codes "branch_no" ∷ []) (1 ∷ 2 ∷ []);
  given = λ q. Int (pos q.month) ∷ Text q.branch ∷ [];
  asks = λ q it. nat_eq it.month q.month && is_same_text it.branch q.branch;
}

pub fee_of_part_is : IsQuestion Second part_fee_shape fee_of_part
unfolding understood everything
fee_of_part_is = record {
  selects = of_second (IsSelected 28 fee_of_part.asking)
      (record { command = refl; unlisted = refl; plain = (refl, refl); stored = λ db. refl });
  shows_columns = λ q r. refl;
  passes = λ q r known good.
      let cells = (pass_each part_fee_cells true (part_fee_columns r) good).1 in
      pass_both (same_number (column r 1) q.month (is_number FIRST_MONTH LAST_ENTRY_MONTH (column r 1) cells.0))
      (same_text (column r 2) q.branch (text_is is_id (column r 2) cells.1.0));
}

abbrev pub fees_of_month : Question FeesOfMonth PartFee
fees_of_month = record {
  asking = asking_by part_fee_named (codes "month" ∷ []) (1 ∷ []);
  given = λ q. Int (pos q.month) ∷ [];
  asks = λ q it. nat_eq it.month q.month;
}

pub fees_of_month_is : IsQuestion Second part_fee_shape fees_of_month
unfolding understood everything
fees_of_month_is = record {
  selects = of_second (IsSelected 28 fees_of_month.asking)
      (record { command = refl; unlisted = refl; plain = (refl, refl); stored = λ db. refl });
  shows_columns = λ q r. refl;
  passes = λ q r known good.
      let cells = (pass_each part_fee_cells true (part_fee_columns r) good).1 in
      pass_one (same_number (column r 1) q.month (is_number FIRST_MONTH LAST_ENTRY_MONTH (column r 1) cells.0));
}

-- The table branch_fee, which came with the second version.
use Rattle.std.specs.Prelude.{refl, ℕ, List, [], ◌∷◌, codes, true}
use Rattle.sqlite_value.specs.declared.value.Value.TheVariants.{Null, Text}
use Rattle.sqlite_value.specs.Order.{Row, column}
use Rattle.sqlite_tied.specs.Compute.{everything}
use Rattle.sqlite.specs.Listing.{understood}
use Rattle.dh_values.specs.Texts.{is_id}
use Rattle.dh_values.specs.declared.limits.TheConstants.{MOST_FEE}
use Rattle.dh_types.specs.declared.fee.BranchFee.{BranchFee}
use Rattle.dh_model.specs.Checks.{is_same_text}
use Rattle.dh_rows.specs.BranchFeeRows.{branch_fee_in, branch_fee_row, is_branch_fee_row}
use Rattle.dh_types.specs.declared.version.Version.TheVariants.{Second}
use Rattle.dh_ddl.specs.Versions.{of_second}
use Rattle.dh_ddl.specs.BranchFeeTable.{branch_fee}
use Rattle.dh_sql.specs.CellTests.{Cell}
use Rattle.dh_sql.specs.Shape.{Shape}
use Rattle.dh_sql.proofs.Casting.{cast_null, pass_each, row_stays}
use Rattle.dh_tables.specs.declared.branch_fee.FeeOfBranch.{FeeOfBranch}
use Rattle.dh_tables.specs.Cells.{is_text as text_is, number_from, pass_one, same_text, text_that}
use Rattle.dh_tables.specs.Commands.{Named, rowid_apart}
use Rattle.dh_tables.specs.Listing.{IsListing, ListsRowids, ListsRows}
use Rattle.dh_tables.specs.Questions.{IsQuestion, IsSelected, Question, asking_by}
use Rattle.dh_tables.specs.Tables.{Adding, IsAdding, IsInsertOf, adding_to, without_rowid}

abbrev pub branch_fee_columns : Row → Row
branch_fee_columns row = column row 1 ∷ column row 2 ∷ []

abbrev pub branch_fee_cells : List Cell
branch_fee_cells = text_that is_id ∷ number_from 0 MOST_FEE ∷ []

abbrev pub branch_fee_shape : Shape (List ℕ) BranchFee
branch_fee_shape = record { tree = 26; columns = branch_fee_columns; is_row = is_branch_fee_row; row_in = branch_fee_in; key = λ it. it.branch }

-- its columns by their names
abbrev pub branch_fee_named : Named
branch_fee_named = rowid_apart branch_fee

-- ---- adding a row

abbrev pub branch_fee_adding : Adding BranchFee
branch_fee_adding = adding_to branch_fee_named 14 branch_fee (without_rowid branch_fee_row)

pub branch_fee_is_adding : IsAdding Second branch_fee_shape branch_fee_row is_branch_fee_row branch_fee_adding
unfolding understood everything
branch_fee_is_adding = record {
  tree_is = refl;
  listed = refl;
  inserts = of_second (IsInsertOf branch_fee_row branch_fee_adding)
      (λ x. record { command = refl; plain = (refl, refl); listed = refl; is_uncounted = refl; value = refl });
  stays = λ x good. row_stays branch_fee_cells branch_fee Null (branch_fee_row x) refl cast_null (pass_each branch_fee_cells true (branch_fee_row x) good).1;
  columns = λ x rows. refl;
  keyed = λ x rows. refl;
}

-- ---- the whole table

pub branch_fee_is_listing : IsListing Second 26 branch_fee_columns branch_fee_named
unfolding understood everything
branch_fee_is_listing = record {
  selects = of_second (ListsRows 26 branch_fee_named)
      (record { command = refl; unlisted = refl; plain = (refl, refl); stored = λ db. refl });
  shows_columns = λ r. refl;
  selects_rowid = of_second (ListsRowids 26 branch_fee_named)
      (record { command = refl; unlisted = refl; plain = (refl, refl); stored = λ db. refl });
}

-- ---- the fee of a branch

abbrev pub fee_of_branch : Question FeeOfBranch BranchFee
fee_of_branch = record {
  asking = asking_by branch_fee_named (codes "branch_no" ∷ []) (1 ∷ []);
  given = λ q. Text q.branch ∷ [];
  asks = λ q it. is_same_text it.branch q.branch;
}

pub fee_of_branch_is : IsQuestion Second branch_fee_shape fee_of_branch
unfolding understood everything
fee_of_branch_is = record {
  selects = of_second (IsSelected 26 fee_of_branch.asking)
      (record { command = refl; unlisted = refl; plain = (refl, refl); stored = λ db. refl });
  shows_columns = λ q r. refl;
  passes = λ q r known good.
      let cells = (pass_each branch_fee_cells true (branch_fee_columns r) good).1 in
      pass_one (same_text (column r 1) q.branch (text_is is_id (column r 1) cells.0));
}

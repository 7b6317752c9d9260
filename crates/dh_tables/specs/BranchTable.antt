-- The table branch.
use Rattle.std.specs.Prelude.{refl, ℕ, List, [], ◌∷◌, codes, true}
use Rattle.sqlite_value.specs.declared.value.Value.TheVariants.{Null, Text}
use Rattle.sqlite_value.specs.Order.{Row, column}
use Rattle.sqlite_tied.specs.Compute.{everything}
use Rattle.sqlite.specs.Listing.{understood}
use Rattle.dh_values.specs.Texts.{is_id, is_text}
use Rattle.dh_types.specs.declared.branch.Branch.{Branch}
use Rattle.dh_model.specs.Checks.{is_same_text}
use Rattle.dh_rows.specs.BranchRows.{branch_in, branch_row, is_branch_row}
use Rattle.dh_types.specs.declared.version.Version.TheVariants.{First}
use Rattle.dh_ddl.specs.Versions.{of_both}
use Rattle.dh_ddl.specs.BranchTable.{branch}
use Rattle.dh_sql.specs.CellTests.{Cell}
use Rattle.dh_sql.specs.Shape.{Shape}
use Rattle.dh_sql.proofs.Casting.{cast_null, pass_each, row_stays}
use Rattle.dh_tables.specs.declared.branch.BranchNumbered.{BranchNumbered}
use Rattle.dh_tables.specs.Cells.{is_text as text_is, pass_one, same_text, text_that}
use Rattle.dh_tables.specs.Commands.{Named, rowid_apart}
use Rattle.dh_tables.specs.Listing.{IsListing, ListsRowids, ListsRows}
use Rattle.dh_tables.specs.Questions.{IsQuestion, IsSelected, Question, asking_by}
use Rattle.dh_tables.specs.Tables.{Adding, IsAdding, IsInsertOf, adding_to, without_rowid}

abbrev pub branch_columns : Row → Row
branch_columns row = column row 1 ∷ column row 2 ∷ column row 3 ∷ column row 4 ∷ []

abbrev pub branch_cells : List Cell
branch_cells = text_that is_id ∷ text_that (is_text 60) ∷ text_that (is_text 60) ∷ text_that (is_text 60) ∷ []

abbrev pub branch_shape : Shape (List ℕ) Branch
branch_shape = record { tree = 1; columns = branch_columns; is_row = is_branch_row; row_in = branch_in; key = λ b. b.number }

-- its columns by their names
abbrev pub branch_named : Named
branch_named = rowid_apart branch

-- ---- adding a row

abbrev pub branch_adding : Adding Branch
branch_adding = adding_to branch_named 1 branch (without_rowid branch_row)

pub branch_is_adding : IsAdding First branch_shape branch_row is_branch_row branch_adding
unfolding understood everything
branch_is_adding = record {
  tree_is = refl;
  listed = refl;
  inserts = of_both (IsInsertOf branch_row branch_adding)
      (λ x. record { command = refl; plain = (refl, refl); listed = refl; is_uncounted = refl; value = refl })
      (λ x. record { command = refl; plain = (refl, refl); listed = refl; is_uncounted = refl; value = refl });
  stays = λ x good. row_stays branch_cells branch Null (branch_row x) refl cast_null (pass_each branch_cells true (branch_row x) good).1;
  columns = λ x rows. refl;
  keyed = λ x rows. refl;
}

-- ---- the whole table

pub branch_is_listing : IsListing First 1 branch_columns branch_named
unfolding understood everything
branch_is_listing = record {
  selects = of_both (ListsRows 1 branch_named)
      (record { command = refl; unlisted = refl; plain = (refl, refl); stored = λ db. refl })
      (record { command = refl; unlisted = refl; plain = (refl, refl); stored = λ db. refl });
  shows_columns = λ r. refl;
  selects_rowid = of_both (ListsRowids 1 branch_named)
      (record { command = refl; unlisted = refl; plain = (refl, refl); stored = λ db. refl })
      (record { command = refl; unlisted = refl; plain = (refl, refl); stored = λ db. refl });
}

-- ---- the branch with a number

abbrev pub branch_numbered : Question BranchNumbered Branch
branch_numbered = record {
  asking = asking_by branch_named (codes "branch_no" ∷ []) (1 ∷ []);
  given = λ q. Text q.number ∷ [];
  asks = λ q b. is_same_text b.number q.number;
}

pub branch_is_numbered : IsQuestion First branch_shape branch_numbered
unfolding understood everything
branch_is_numbered = record {
  selects = of_both (IsSelected 1 branch_numbered.asking)
      (record { command = refl; unlisted = refl; plain = (refl, refl); stored = λ db. refl })
      (record { command = refl; unlisted = refl; plain = (refl, refl); stored = λ db. refl });
  shows_columns = λ q r. refl;
  passes = λ q r known good.
      let cells = (pass_each branch_cells true (branch_columns r) good).1 in
      pass_one (same_text (column r 1) q.number (text_is is_id (column r 1) cells.0));
}

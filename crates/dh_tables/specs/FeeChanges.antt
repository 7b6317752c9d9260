-- The fee of a branch, and the end of a lease, where another one is there.
use Rattle.std.specs.Prelude.{◌≤◌, refl, ℕ, pos, true, [], ◌∷◌, codes, drop}
use Rattle.sqlite_value.specs.declared.value.Value.TheVariants.{Int, Null, Text}
use Rattle.sqlite_value.specs.Order.{Row, column}
use Rattle.sqlite_sql.specs.Term.{col, lit}
use Rattle.sqlite_tied.specs.Compute.{everything}
use Rattle.sqlite.specs.Listing.{understood}
use Rattle.dh_values.specs.Texts.{is_id}
use Rattle.dh_values.specs.declared.limits.TheConstants.{LEAST_LEASE_MONTHS, MOST_FEE, MOST_LEASE_MONTHS, MOST_NUMBER}
use Rattle.dh_types.specs.declared.fee.BranchFee.{BranchFee}
use Rattle.dh_types.specs.declared.lease.Ending.{Ending}
use Rattle.dh_types.specs.declared.version.Version.TheVariants.{Second}
use Rattle.dh_ddl.specs.Versions.{of_second}
use Rattle.dh_ddl.specs.BranchFeeTable.{branch_fee}
use Rattle.dh_ddl.specs.EndingTable.{ending}
use Rattle.dh_sql.specs.CellTests.{AreCells}
use Rattle.dh_sql.specs.Shape.{stored_in}
use Rattle.dh_sql.proofs.Casting.{cast_rowid, pass_all, pass_each, row_stays}
use Rattle.dh_tables.specs.Amendments.{Amending, IsAmending, Updates}
use Rattle.dh_tables.specs.Cells.{in_range, is_number, is_text as text_is, pass_one, rowid_column, same_number, same_text, tells_number, tells_text, to_limit}
use Rattle.dh_tables.specs.BranchFeeTable.{branch_fee_cells, branch_fee_columns, branch_fee_shape, fee_of_branch}
use Rattle.dh_tables.specs.EndingTable.{ending_cells, ending_columns, ending_of, ending_shape}
use Rattle.dh_tables.specs.Commands.{update_text}

-- ---- UPDATE branch_fee SET fee = ?2 WHERE branch_no = ?1

abbrev pub branch_fee_amending : Amending BranchFee
branch_fee_amending = record {
  text = update_text (codes "branch_fee") (codes "branch_no" ∷ []) (codes "fee" ∷ []);
  place = 14;
  table = branch_fee;
  tests = fee_of_branch.asking.tests;
  project = col 1 0 ∷ col 1 0 ∷ col 1 1 ∷ col 0 1 ∷ [];
  given = λ q. Text q.branch ∷ Int (pos q.fee) ∷ [];
}

pub branch_fee_is : IsAmending Second branch_fee_shape branch_fee_amending (λ q. q.fee ≤ MOST_FEE) (λ q. q.branch)
    (λ q it. record it { fee = q.fee })
unfolding understood everything
branch_fee_is = record {
  means = of_second (Updates branch_fee_amending)
      (record { command = refl; plain = (refl, refl); listed = refl; stored = λ db. refl });
  tree_is = refl;
  finds = λ q r good.
      let cells = (pass_each branch_fee_cells true (branch_fee_columns r) good).1 in
      tells_text (stored_in branch_fee_shape r).branch q.branch (pass_one (same_text (column r 1) q.branch (text_is is_id (column r 1) cells.0)));
  keeps_rowid = λ q r. refl;
  turns = λ q r known good own.
      let c = (pass_each branch_fee_cells true (branch_fee_columns r) good).1 in
      let new : Row = column r 1 ∷ Int (pos q.fee) ∷ [] in
      let cells : AreCells branch_fee_cells new = (c.0, (to_limit MOST_FEE q.fee known, tt)) in
      record {
        stays = row_stays branch_fee_cells branch_fee (column r 0) new refl (cast_rowid (column r 0) own) cells;
        rowid_is = refl;
        grammar = pass_all branch_fee_cells true new refl cells;
        record_is = refl;
      };
  keeps_key = λ q x. refl;
}

-- ---- UPDATE ending SET months = ?2 WHERE lease_no = ?1

abbrev pub ending_amending : Amending Ending
ending_amending = record {
  text = update_text (codes "ending") (codes "lease_no" ∷ []) (codes "months" ∷ []);
  place = 16;
  table = ending;
  tests = ending_of.asking.tests;
  project = col 1 0 ∷ col 1 0 ∷ lit Null ∷ col 0 1 ∷ [];
  given = λ q. Int (pos q.lease) ∷ Int (pos q.months) ∷ [];
}

-- so many months as the column holds
abbrev pub IsLength : ℕ → Type 0
IsLength months = (LEAST_LEASE_MONTHS ≤ months) × (months ≤ MOST_LEASE_MONTHS)

pub ending_is : IsAmending Second ending_shape ending_amending (λ q. IsLength q.months) (λ q. q.lease) (λ q it. record it { months = q.months })
unfolding understood everything
ending_is = record {
  means = of_second (Updates ending_amending)
      (record { command = refl; plain = (refl, refl); listed = refl; stored = λ db. refl });
  tree_is = refl;
  finds = λ q r good.
      let cells = (pass_each ending_cells true (ending_columns r) good).1 in
      tells_number (stored_in ending_shape r).lease q.lease
      (pass_one (same_number (column r 0) q.lease (is_number 1 MOST_NUMBER (column r 0) cells.0)));
  keeps_rowid = λ q r. refl;
  turns = λ q r known good own.
      let c = (pass_each ending_cells true (ending_columns r) good).1 in
      let rest : Row = Int (pos q.months) ∷ [] in
      let cells : AreCells (drop 1 ending_cells) rest = (in_range LEAST_LEASE_MONTHS MOST_LEASE_MONTHS q.months known.0 known.1, tt) in
      record {
        stays = row_stays (rowid_column ∷ drop 1 ending_cells) ending (column r 0) (Null ∷ rest) refl (cast_rowid (column r 0) own) (refl, cells);
        rowid_is = refl;
        grammar = pass_all ending_cells true (column r 0 ∷ rest) refl (c.0, cells);
        record_is = refl;
      };
  keeps_key = λ q x. refl;
}

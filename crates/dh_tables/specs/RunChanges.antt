-- A run that is closed, and a part of a run that goes on, with its fee.
use Rattle.std.specs.Prelude.{◌≡◌, ◌≤◌, refl, ℕ, pos, true, [], ◌∷◌, Option, codes, drop}
use Rattle.std.proofs.Common.{ap}
use Rattle.sqlite_value.specs.declared.value.Value.TheVariants.{Int, Null, Text}
use Rattle.sqlite_value.specs.Order.{Row, column}
use Rattle.sqlite_sql.specs.Term.{col, lit}
use Rattle.sqlite_tied.specs.Compute.{everything}
use Rattle.sqlite.specs.Listing.{understood}
use Rattle.dh_values.specs.Texts.{is_id}
use Rattle.dh_values.specs.declared.limits.TheConstants.{MOST_FEE, MOST_PENCE}
use Rattle.dh_days.specs.declared.limits.TheConstants.{FIRST_MONTH, LAST_ENTRY_MONTH}
use Rattle.dh_types.specs.declared.run.Part.{Part}
use Rattle.dh_types.specs.declared.run.RunSum.{RunSum}
use Rattle.dh_types.specs.declared.fee.PartFee.{PartFee}
use Rattle.dh_rows.specs.declared.limits.TheConstants.{MOST_COUNT}
use Rattle.dh_rows.specs.Cells.{is_through_cell, through_back, through_value}
use Rattle.dh_types.specs.declared.version.Version.TheVariants.{First, Second}
use Rattle.dh_ddl.specs.Versions.{of_both, of_second}
use Rattle.dh_ddl.specs.RunTable.{run}
use Rattle.dh_ddl.specs.PartTable.{part}
use Rattle.dh_ddl.specs.PartFeeTable.{part_fee}
use Rattle.dh_sql.specs.CellTests.{AreCells}
use Rattle.dh_sql.specs.Shape.{stored_in}
use Rattle.dh_sql.proofs.Casting.{cast_rowid, pass_all, pass_each, row_stays}
use Rattle.dh_tables.specs.Amendments.{Amending, IsAmending, Updates}
use Rattle.dh_tables.specs.Cells.{is_number, is_text as text_is, pass_both, pass_one, rowid_column}
use Rattle.dh_tables.specs.Cells.{same_number, same_text, tells_both, tells_number, tells_text, to_limit}
use Rattle.dh_tables.specs.RunTable.{run_cells, run_columns, run_of, run_shape}
use Rattle.dh_tables.specs.PartTable.{part_cells, part_columns, part_of, part_shape}
use Rattle.dh_tables.specs.PartFeeTable.{fee_of_part, part_fee_cells, part_fee_columns, part_fee_shape}
use Rattle.dh_tables.specs.Commands.{update_text}

-- ---- UPDATE run SET due_count = ?2, due_total = ?3, closed = 1 WHERE month = ?1

abbrev pub closing : Amending RunSum
closing = record {
  text = codes "UPDATE run SET due_count = ?2, due_total = ?3, closed = 1 WHERE month = ?1";
  place = 12;
  table = run;
  tests = run_of.asking.tests;
  project = col 1 0 ∷ col 1 0 ∷ lit Null ∷ col 1 2 ∷ col 0 1 ∷ col 0 2 ∷ lit (Int (pos 1)) ∷ [];
  given = λ q. Int (pos q.month) ∷ Int (pos q.count) ∷ Int (pos q.total) ∷ [];
}

-- the count and the total are such as the columns hold
abbrev pub AreSums : ℕ → ℕ → Type 0
AreSums count total = (count ≤ MOST_COUNT) × (total ≤ MOST_PENCE)

pub closing_is : IsAmending First run_shape closing (λ q. AreSums q.count q.total) (λ q. q.month)
    (λ q r. record r { count = q.count; total = q.total; is_closed = true })
unfolding understood everything
closing_is = record {
  means = of_both (Updates closing)
      (record { command = refl; plain = (refl, refl); listed = refl; stored = λ db. refl })
      (record { command = refl; plain = (refl, refl); listed = refl; stored = λ db. refl });
  tree_is = refl;
  finds = λ q r good.
      let cells = (pass_each run_cells true (run_columns r) good).1 in
      tells_number (stored_in run_shape r).month q.month
      (pass_one (same_number (column r 0) q.month (is_number FIRST_MONTH LAST_ENTRY_MONTH (column r 0) cells.0)));
  keeps_rowid = λ q r. refl;
  turns = λ q r known good own.
      let c = (pass_each run_cells true (run_columns r) good).1 in
      let rest : Row = column r 2 ∷ Int (pos q.count) ∷ Int (pos q.total) ∷ Int (pos 1) ∷ [] in
      let cells : AreCells (drop 1 run_cells) rest =
      (c.1.0, (to_limit MOST_COUNT q.count known.0, (to_limit MOST_PENCE q.total known.1, (refl, tt)))) in
      record {
        stays = row_stays (rowid_column ∷ drop 1 run_cells) run (column r 0) (Null ∷ rest) refl (cast_rowid (column r 0) own) (refl, cells);
        rowid_is = refl;
        grammar = pass_all run_cells true (column r 0 ∷ rest) refl (c.0, cells);
        record_is = refl;
      };
  keeps_key = λ q x. refl;
}

-- ---- UPDATE part SET through_lease = ?3, due_count = ?4, due_total = ?5 WHERE month = ?1 AND branch_no = ?2

abbrev pub part_amending : Amending Part
part_amending = record {
  text = update_text (codes "part") (codes "month" ∷ codes "branch_no" ∷ []) (codes "through_lease" ∷ codes "due_count" ∷ codes "due_total" ∷ []);
  place = 13;
  table = part;
  tests = part_of.asking.tests;
  project = col 1 0 ∷ col 1 0 ∷ col 1 1 ∷ col 1 2 ∷ col 0 2 ∷ col 0 3 ∷ col 0 4 ∷ [];
  given = λ q. Int (pos q.month) ∷ Text q.branch ∷ through_value q.through ∷ Int (pos q.count) ∷ Int (pos q.total) ∷ [];
}

abbrev pub IsPart : Part → Type 0
IsPart q = (is_through_cell (through_value q.through) ≡ true) × AreSums q.count q.total

pub part_is : IsAmending First part_shape part_amending IsPart (λ q. (q.month, q.branch))
    (λ q p. record p { through = q.through; count = q.count; total = q.total })
unfolding understood everything
part_is = record {
  means = of_both (Updates part_amending)
      (record { command = refl; plain = (refl, refl); listed = refl; stored = λ db. refl })
      (record { command = refl; plain = (refl, refl); listed = refl; stored = λ db. refl });
  tree_is = refl;
  finds = λ q r good.
      let cells = (pass_each part_cells true (part_columns r) good).1 in
      let p = stored_in part_shape r in
      tells_both (tells_number p.month q.month refl) (tells_text p.branch q.branch refl)
      (pass_both (same_number (column r 1) q.month (is_number FIRST_MONTH LAST_ENTRY_MONTH (column r 1) cells.0))
      (same_text (column r 2) q.branch (text_is is_id (column r 2) cells.1.0)));
  keeps_rowid = λ q r. refl;
  turns = λ q r known good own.
      let c = (pass_each part_cells true (part_columns r) good).1 in
      let new : Row = column r 1 ∷ column r 2 ∷ through_value q.through ∷ Int (pos q.count) ∷ Int (pos q.total) ∷ [] in
      let cells : AreCells part_cells new =
      (c.0, (c.1.0, (known.0, (to_limit MOST_COUNT q.count known.1.0, (to_limit MOST_PENCE q.total known.1.1, tt))))) in
      let amended : Option ℕ → Part = λ through. record (stored_in part_shape r) { through = through; count = q.count; total = q.total } in
      record {
        stays = row_stays part_cells part (column r 0) new refl (cast_rowid (column r 0) own) cells;
        rowid_is = refl;
        grammar = pass_all part_cells true new refl cells;
        record_is = ap amended (through_back q.through known.0);
      };
  keeps_key = λ q x. refl;
}

-- ---- UPDATE part_fee SET fee = ?3, fee_total = ?4 WHERE month = ?1 AND branch_no = ?2

abbrev pub fee_amending : Amending PartFee
fee_amending = record {
  text = update_text (codes "part_fee") (codes "month" ∷ codes "branch_no" ∷ []) (codes "fee" ∷ codes "fee_total" ∷ []);
  place = 15;
  table = part_fee;
  tests = fee_of_part.asking.tests;
  project = col 1 0 ∷ col 1 0 ∷ col 1 1 ∷ col 1 2 ∷ col 0 2 ∷ col 0 3 ∷ [];
  given = λ q. Int (pos q.month) ∷ Text q.branch ∷ Int (pos q.fee) ∷ Int (pos q.total) ∷ [];
}

-- the fee and the total are such as the columns hold
abbrev pub IsPartFee : PartFee → Type 0
IsPartFee q = (q.fee ≤ MOST_FEE) × (q.total ≤ MOST_PENCE)

pub fee_is : IsAmending Second part_fee_shape fee_amending IsPartFee (λ q. (q.month, q.branch))
    (λ q p. record p { fee = q.fee; total = q.total })
unfolding understood everything
fee_is = record {
  means = of_second (Updates fee_amending)
      (record { command = refl; plain = (refl, refl); listed = refl; stored = λ db. refl });
  tree_is = refl;
  finds = λ q r good.
      let cells = (pass_each part_fee_cells true (part_fee_columns r) good).1 in
      let p = stored_in part_fee_shape r in
      tells_both (tells_number p.month q.month refl) (tells_text p.branch q.branch refl)
      (pass_both (same_number (column r 1) q.month (is_number FIRST_MONTH LAST_ENTRY_MONTH (column r 1) cells.0))
      (same_text (column r 2) q.branch (text_is is_id (column r 2) cells.1.0)));
  keeps_rowid = λ q r. refl;
  turns = λ q r known good own.
      let c = (pass_each part_fee_cells true (part_fee_columns r) good).1 in
      let new : Row = column r 1 ∷ column r 2 ∷ Int (pos q.fee) ∷ Int (pos q.total) ∷ [] in
      let cells : AreCells part_fee_cells new = (c.0, (c.1.0, (to_limit MOST_FEE q.fee known.0, (to_limit MOST_PENCE q.total known.1, tt)))) in
      record {
        stays = row_stays part_fee_cells part_fee (column r 0) new refl (cast_rowid (column r 0) own) cells;
        rowid_is = refl;
        grammar = pass_all part_fee_cells true new refl cells;
        record_is = refl;
      };
  keeps_key = λ q x. refl;
}

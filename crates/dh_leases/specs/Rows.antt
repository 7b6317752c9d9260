-- The rows of a branch's batches, from what falls due on it.
use Rattle.std.specs.Prelude.{ℕ, Bool, nat_lt, ◌+◌, ◌-◌, ◌*◌, List, Option, Some, None, drop, length, map, take}
use Rattle.std.specs.List.{flat_map, range_with_len}
use Rattle.std.specs.FinMap.{keys}
use Rattle.dh_types.specs.declared.lease.Charge.{Charge}
use Rattle.dh_types.specs.declared.run.Part.{Part}
use Rattle.dh_types.specs.declared.fee.PartFee.{PartFee}
use Rattle.dh_types.specs.declared.version.Version.{Version}
use Rattle.dh_types.specs.declared.version.Version.TheVariants.{First, Second}
use Rattle.dh_model.specs.Books.{Books}
use Rattle.dh_model.specs.Runs.{batches_before, batches_for, dues_of_branch, fee_at, part_fee_of, part_of}
use Rattle.dh_leases.specs.declared.plans.BatchRows.{BatchRows}
use Rattle.dh_leases.specs.declared.plans.BranchRun.{BranchRun}

-- a batch's charges, its part row, its fee row, and whether the branch has these rows already
abbrev pub Rows : Type 0
Rows = List Charge × Part × Option PartFee × Bool

abbrev pub rows_of : BatchRows → Rows
rows_of rows = (rows.charges.items, rows.part, rows.fee, rows.has_part)

-- what came with the second version; books of the first have none of it
abbrev pub row_since_second : {X : Type 0} → Version → X → Option X
row_since_second First row = None
row_since_second Second row = Some row

-- the branch in the run of the month, with its fee
abbrev pub branch_run : Books → ℕ → List ℕ → BranchRun
branch_run books month branch = record { version = books.version; month = month; branch = branch; fee = fee_at books branch }

-- the fee row of the branch, where these are its charges
abbrev pub fee_after : BranchRun → List Charge → Option PartFee
fee_after run charges = row_since_second run.version (part_fee_of run.month run.branch run.fee charges)

module _ (size : ℕ) where
  -- the charges of the branch's batch of this number, from 0
  abbrev pub charges_at : List Charge → ℕ → List Charge
  charges_at dues number = drop (number * size) (take ((number + 1) * size) dues)

  -- the rows of that batch: part row and fee row are of all the branch's charges so far, and there from the branch's first batch on
  abbrev pub rows_at : BranchRun → List Charge → ℕ → Rows
  rows_at run dues number =
      let so_far = take ((number + 1) * size) dues in
      (charges_at dues number, part_of run.month run.branch so_far, fee_after run so_far, nat_lt 0 number)

  -- the rows of the branch's batches without so many first ones
  abbrev pub rows_after : BranchRun → List Charge → ℕ → List Rows
  rows_after run dues done = map (rows_at run dues) (range_with_len done (batches_for size (length dues) - done))

  -- the same, where so many batches of the month are done, of all branches
  abbrev pub rows_left : Books → ℕ → ℕ → List ℕ → List Rows
  rows_left books month done branch =
      rows_after (branch_run books month branch) (dues_of_branch books month branch) (done - batches_before size books month branch)

  abbrev pub all_rows_left : Books → ℕ → ℕ → List Rows
  all_rows_left books month done = flat_map (rows_left books month done) (keys books.branches)

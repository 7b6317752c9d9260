-- The fee of a branch as the columns of a row.
use Rattle.std.specs.Prelude.{◌≡◌, pos, Bool, true, ◌&&◌, ◌==◌, [], ◌∷◌, length, refl}
use Rattle.sqlite_value.specs.declared.value.Value.TheVariants.{Int, Text}
use Rattle.sqlite_value.specs.Order.{Row, column}
use Rattle.dh_types.specs.declared.fee.BranchFee.{BranchFee}
use Rattle.dh_rows.specs.Cells.{is_fee_cell, is_id_cell, number_in, text_in}

abbrev pub branch_fee_row : BranchFee → Row
branch_fee_row it = Text it.branch ∷ Int (pos it.fee) ∷ []

-- each column holds a value of its kind
abbrev pub is_branch_fee_row : Row → Bool
is_branch_fee_row row = (length row == 2) && is_id_cell (column row 0) && is_fee_cell (column row 1)

-- the fee that such a row is
abbrev pub branch_fee_in : Row → BranchFee
branch_fee_in row = record { branch = text_in (column row 0); fee = number_in (column row 1) }

-- a row is read back as what it was made of
pub branch_fee_back : (it : BranchFee) → is_branch_fee_row (branch_fee_row it) ≡ true → branch_fee_in (branch_fee_row it) ≡ it
branch_fee_back it good = refl

-- The fee of a part of a run as the columns of a row.
use Rattle.std.specs.Prelude.{◌≡◌, pos, Bool, true, ◌&&◌, ◌==◌, [], ◌∷◌, length, refl}
use Rattle.sqlite_value.specs.declared.value.Value.TheVariants.{Int, Text}
use Rattle.sqlite_value.specs.Order.{Row, column}
use Rattle.dh_types.specs.declared.fee.PartFee.{PartFee}
use Rattle.dh_rows.specs.Cells.{is_fee_cell, is_id_cell, is_month_cell, is_pence_cell, number_in, text_in}

abbrev pub part_fee_row : PartFee → Row
part_fee_row it = Int (pos it.month) ∷ Text it.branch ∷ Int (pos it.fee) ∷ Int (pos it.total) ∷ []

-- each column holds a value of its kind
abbrev pub is_part_fee_row : Row → Bool
is_part_fee_row row =
    (length row == 4) && is_month_cell (column row 0) && is_id_cell (column row 1) && is_fee_cell (column row 2) && is_pence_cell (column row 3)

-- the fee that such a row is
abbrev pub part_fee_in : Row → PartFee
part_fee_in row = record {
  month = number_in (column row 0);
  branch = text_in (column row 1);
  fee = number_in (column row 2);
  total = number_in (column row 3);
}

-- a row is read back as what it was made of
pub part_fee_back : (it : PartFee) → is_part_fee_row (part_fee_row it) ≡ true → part_fee_in (part_fee_row it) ≡ it
part_fee_back it good = refl

-- A part of a run as the columns of a row.
use Rattle.std.specs.Prelude.{◌≡◌, pos, Bool, true, ◌&&◌, ◌==◌, [], ◌∷◌, length}
use Rattle.sqlite_value.specs.declared.value.Value.TheVariants.{Int, Text}
use Rattle.sqlite_value.specs.Order.{Row, column}
use Rattle.dh_values.proofs.Ascii.{and_left, and_right}
use Rattle.dh_types.specs.declared.run.Part.{Part}
use Rattle.dh_rows.specs.Cells.{is_count_cell, is_id_cell, is_month_cell, is_pence_cell, is_through_cell, number_in, text_in, through_back}
use Rattle.dh_rows.specs.Cells.{through_in, through_value}

abbrev pub part_row : Part → Row
part_row p = Int (pos p.month) ∷ Text p.branch ∷ through_value p.through ∷ Int (pos p.count) ∷ Int (pos p.total) ∷ []

-- each column holds a value of its kind
abbrev pub is_part_row : Row → Bool
is_part_row row =
    (length row == 5) && is_month_cell (column row 0) && is_id_cell (column row 1) && is_through_cell (column row 2) && is_count_cell (column row 3)
    && is_pence_cell (column row 4)

-- the part that such a row is
abbrev pub part_in : Row → Part
part_in row = record {
  month = number_in (column row 0);
  branch = text_in (column row 1);
  through = through_in (column row 2);
  count = number_in (column row 3);
  total = number_in (column row 4);
}

-- a row is read back as what it was made of
pub part_back : (p : Part) → is_part_row (part_row p) ≡ true → part_in (part_row p) ≡ p
part_back p good =
    let through = through_back p.through (and_right (is_month_cell (Int (pos p.month)) && is_id_cell (Text p.branch)) _ (and_left _ _ (and_left _ _ good))) in
    λ i. record { month = p.month; branch = p.branch; through = through i; count = p.count; total = p.total }

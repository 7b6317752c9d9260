-- An inspection as the columns of a row.
use Rattle.std.specs.Prelude.{◌≡◌, Bool, true, ◌&&◌, ◌==◌, [], ◌∷◌, length}
use Rattle.sqlite_value.specs.declared.value.Value.TheVariants.{Text}
use Rattle.sqlite_value.specs.Order.{Row, column}
use Rattle.dh_values.proofs.Ascii.{and_left, and_right}
use Rattle.dh_days.specs.Days.{day_text}
use Rattle.dh_types.specs.declared.viewing.Inspection.{Inspection}
use Rattle.dh_rows.specs.Cells.{day_back, day_in, is_day_cell, is_id_cell, is_text_cell, text_in}

abbrev pub inspection_row : Inspection → Row
inspection_row n = Text n.property ∷ Text (day_text n.day) ∷ Text n.staff ∷ Text n.comment ∷ []

-- each column holds a value of its kind
abbrev pub is_inspection_row : Row → Bool
is_inspection_row row =
    (length row == 4) && is_id_cell (column row 0) && is_day_cell (column row 1) && is_id_cell (column row 2) && is_text_cell 200 (column row 3)

-- the inspection that such a row is
abbrev pub inspection_in : Row → Inspection
inspection_in row = record {
  property = text_in (column row 0);
  day = day_in (column row 1);
  staff = text_in (column row 2);
  comment = text_in (column row 3);
}

-- a row is read back as what it was made of
pub inspection_back : (n : Inspection) → is_inspection_row (inspection_row n) ≡ true → inspection_in (inspection_row n) ≡ n
inspection_back n good =
    let day = day_back n.day (and_right (is_id_cell (Text n.property)) _ (and_left _ _ (and_left _ _ good))) in
    λ i. record { property = n.property; day = day i; staff = n.staff; comment = n.comment }

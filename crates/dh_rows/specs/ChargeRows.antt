-- A charge as the columns of a row.
use Rattle.std.specs.Prelude.{◌≡◌, pos, Bool, true, ◌&&◌, ◌==◌, [], ◌∷◌, length}
use Rattle.sqlite_value.specs.declared.value.Value.TheVariants.{Int, Text}
use Rattle.sqlite_value.specs.Order.{Row, column}
use Rattle.dh_values.proofs.Ascii.{and_left, and_right}
use Rattle.dh_values.specs.declared.limits.TheConstants.{MOST_CHARGE_INDEX}
use Rattle.dh_days.specs.Days.{day_text}
use Rattle.dh_types.specs.declared.lease.Charge.{Charge}
use Rattle.dh_rows.specs.Cells.{due_day_back, due_day_in, is_due_day_cell, is_month_cell, is_named_number_cell, is_number_cell, is_rent_cell, number_in}

abbrev pub charge_row : Charge → Row
charge_row c = Int (pos c.lease) ∷ Int (pos c.index) ∷ Int (pos c.month) ∷ Text (day_text c.day) ∷ Int (pos c.amount) ∷ []

-- each column holds a value of its kind
abbrev pub is_charge_row : Row → Bool
is_charge_row row =
    (length row == 5) && is_named_number_cell (column row 0) && is_number_cell 0 MOST_CHARGE_INDEX (column row 1) && is_month_cell (column row 2)
    && is_due_day_cell (column row 3) && is_rent_cell (column row 4)

-- the charge that such a row is
abbrev pub charge_in : Row → Charge
charge_in row = record {
  lease = number_in (column row 0);
  index = number_in (column row 1);
  month = number_in (column row 2);
  day = due_day_in (column row 3);
  amount = number_in (column row 4);
}

-- a row is read back as what it was made of
pub charge_back : (c : Charge) → is_charge_row (charge_row c) ≡ true → charge_in (charge_row c) ≡ c
charge_back c good =
    let first = is_named_number_cell (Int (pos c.lease)) && is_number_cell 0 MOST_CHARGE_INDEX (Int (pos c.index)) && is_month_cell (Int (pos c.month)) in
    let day = due_day_back c.day (and_right first _ (and_left _ _ good)) in
    λ i. record { lease = c.lease; index = c.index; month = c.month; day = day i; amount = c.amount }

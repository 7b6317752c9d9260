-- A registration as the columns of a row.
use Rattle.std.specs.Prelude.{◌≡◌, Bool, true, ◌&&◌, ◌==◌, [], ◌∷◌, length}
use Rattle.sqlite_value.specs.declared.value.Value.TheVariants.{Text}
use Rattle.sqlite_value.specs.Order.{Row, column}
use Rattle.dh_values.proofs.Ascii.{and_right}
use Rattle.dh_days.specs.Days.{day_text}
use Rattle.dh_types.specs.declared.client.Registration.{Registration}
use Rattle.dh_rows.specs.Cells.{day_back, day_in, is_day_cell, is_id_cell, text_in}

abbrev pub registration_row : Registration → Row
registration_row r = Text r.client ∷ Text r.branch ∷ Text r.staff ∷ Text (day_text r.day) ∷ []

-- each column holds a value of its kind
abbrev pub is_registration_row : Row → Bool
is_registration_row row =
    (length row == 4) && is_id_cell (column row 0) && is_id_cell (column row 1) && is_id_cell (column row 2) && is_day_cell (column row 3)

-- the registration that such a row is
abbrev pub registration_in : Row → Registration
registration_in row = record {
  client = text_in (column row 0);
  branch = text_in (column row 1);
  staff = text_in (column row 2);
  day = day_in (column row 3);
}

-- a row is read back as what it was made of
pub registration_back : (r : Registration) → is_registration_row (registration_row r) ≡ true → registration_in (registration_row r) ≡ r
registration_back r good =
    let day = day_back r.day (and_right (is_id_cell (Text r.client) && is_id_cell (Text r.branch) && is_id_cell (Text r.staff)) _ good) in
    λ i. record { client = r.client; branch = r.branch; staff = r.staff; day = day i }

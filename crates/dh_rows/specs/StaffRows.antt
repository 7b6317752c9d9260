-- A member of staff as the columns of a row.
use Rattle.std.specs.Prelude.{◌≡◌, Bool, true, ◌&&◌, ◌==◌, [], ◌∷◌, length, refl}
use Rattle.sqlite_value.specs.declared.value.Value.TheVariants.{Text}
use Rattle.sqlite_value.specs.Order.{Row, column}
use Rattle.dh_values.specs.declared.position.Position.{Position}
use Rattle.dh_values.specs.declared.position.Position.TheVariants.{Manager, Supervisor, Assistant}
use Rattle.dh_values.specs.Kinds.{position_of, position_text}
use Rattle.dh_types.specs.declared.staff.Staff.{Staff}
use Rattle.dh_rows.specs.Cells.{is_id_cell, is_read_cell, is_text_cell, read_in, text_in}

abbrev pub staff_row : Staff → Row
staff_row s = Text s.number ∷ Text s.name ∷ Text (position_text s.position) ∷ Text s.branch ∷ []

-- each column holds a value of its kind
abbrev pub is_staff_row : Row → Bool
is_staff_row row =
    (length row == 4) && is_id_cell (column row 0) && is_text_cell 60 (column row 1) && is_read_cell position_of (column row 2)
    && is_id_cell (column row 3)

-- the member of staff that such a row is
abbrev pub staff_in : Row → Staff
staff_in row = record {
  number = text_in (column row 0);
  name = text_in (column row 1);
  position = read_in position_of Assistant (column row 2);
  branch = text_in (column row 3);
}

position_back : (p : Position) → read_in position_of Assistant (Text (position_text p)) ≡ p
position_back Manager = refl
position_back Supervisor = refl
position_back Assistant = refl

-- a row is read back as what it was made of
pub staff_back : (s : Staff) → is_staff_row (staff_row s) ≡ true → staff_in (staff_row s) ≡ s
staff_back s good = λ i. record { number = s.number; name = s.name; position = position_back s.position i; branch = s.branch }

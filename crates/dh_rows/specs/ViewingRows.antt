-- A viewing as the columns of a row.
use Rattle.std.specs.Prelude.{◌≡◌, Bool, true, ◌&&◌, ◌==◌, [], ◌∷◌, length}
use Rattle.sqlite_value.specs.declared.value.Value.TheVariants.{Text}
use Rattle.sqlite_value.specs.Order.{Row, column}
use Rattle.dh_values.proofs.Ascii.{and_left, and_right}
use Rattle.dh_days.specs.Days.{day_text}
use Rattle.dh_types.specs.declared.viewing.Viewing.{Viewing}
use Rattle.dh_rows.specs.Cells.{day_back, day_in, is_day_cell, is_id_cell, is_optional, is_text_cell, optional_back, optional_text, optional_text_in, text_in}

abbrev pub viewing_row : Viewing → Row
viewing_row v = Text v.client ∷ Text v.property ∷ Text (day_text v.day) ∷ optional_text v.comment ∷ []

-- each column holds a value of its kind; the comment is NULL where there is none
abbrev pub is_viewing_row : Row → Bool
is_viewing_row row =
    (length row == 4) && is_id_cell (column row 0) && is_id_cell (column row 1) && is_day_cell (column row 2)
    && is_optional (is_text_cell 200) (column row 3)

-- the viewing that such a row is
abbrev pub viewing_in : Row → Viewing
viewing_in row = record {
  client = text_in (column row 0);
  property = text_in (column row 1);
  day = day_in (column row 2);
  comment = optional_text_in (column row 3);
}

-- a row is read back as what it was made of
pub viewing_back : (v : Viewing) → is_viewing_row (viewing_row v) ≡ true → viewing_in (viewing_row v) ≡ v
viewing_back v good =
    let day = day_back v.day (and_right (is_id_cell (Text v.client) && is_id_cell (Text v.property)) _ (and_left _ _ good)) in
    λ i. record { client = v.client; property = v.property; day = day i; comment = optional_back v.comment i }

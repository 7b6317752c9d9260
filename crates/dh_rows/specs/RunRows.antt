-- A run as the columns of a row.
use Rattle.std.specs.Prelude.{◌≡◌, pos, Bool, true, ◌&&◌, ◌==◌, [], ◌∷◌, length}
use Rattle.sqlite_value.specs.declared.value.Value.TheVariants.{Int, Text}
use Rattle.sqlite_value.specs.Order.{Row, column}
use Rattle.dh_types.specs.declared.run.Run.{Run}
use Rattle.dh_rows.specs.Cells.{flag_back, flag_in, flag_number, is_count_cell, is_flag_cell, is_key_cell, is_month_cell, is_pence_cell, number_in, text_in}

abbrev pub run_row : Run → Row
run_row r = Int (pos r.month) ∷ Text r.key ∷ Int (pos r.count) ∷ Int (pos r.total) ∷ Int (pos (flag_number r.is_closed)) ∷ []

-- each column holds a value of its kind
abbrev pub is_run_row : Row → Bool
is_run_row row =
    (length row == 5) && is_month_cell (column row 0) && is_key_cell (column row 1) && is_count_cell (column row 2) && is_pence_cell (column row 3)
    && is_flag_cell (column row 4)

-- the run that such a row is
abbrev pub run_in : Row → Run
run_in row = record {
  month = number_in (column row 0);
  key = text_in (column row 1);
  count = number_in (column row 2);
  total = number_in (column row 3);
  is_closed = flag_in (column row 4);
}

-- a row is read back as what it was made of
pub run_back : (r : Run) → is_run_row (run_row r) ≡ true → run_in (run_row r) ≡ r
run_back r good = λ i. record { month = r.month; key = r.key; count = r.count; total = r.total; is_closed = flag_back r.is_closed i }

-- The early ending of a lease as the columns of a row.
use Rattle.std.specs.Prelude.{◌≡◌, pos, Bool, true, ◌&&◌, ◌==◌, [], ◌∷◌, length, refl}
use Rattle.sqlite_value.specs.declared.value.Value.TheVariants.{Int}
use Rattle.sqlite_value.specs.Order.{Row, column}
use Rattle.dh_values.specs.declared.limits.TheConstants.{LEAST_LEASE_MONTHS, MOST_LEASE_MONTHS}
use Rattle.dh_types.specs.declared.lease.Ending.{Ending}
use Rattle.dh_rows.specs.Cells.{is_named_number_cell, is_number_cell, number_in}

abbrev pub ending_row : Ending → Row
ending_row e = Int (pos e.lease) ∷ Int (pos e.months) ∷ []

-- each column holds a value of its kind
abbrev pub is_ending_row : Row → Bool
is_ending_row row =
    (length row == 2) && is_named_number_cell (column row 0) && is_number_cell LEAST_LEASE_MONTHS MOST_LEASE_MONTHS (column row 1)

-- the ending that such a row is
abbrev pub ending_in : Row → Ending
ending_in row = record { lease = number_in (column row 0); months = number_in (column row 1) }

-- a row is read back as what it was made of
pub ending_back : (e : Ending) → is_ending_row (ending_row e) ≡ true → ending_in (ending_row e) ≡ e
ending_back e good = refl

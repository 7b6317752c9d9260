-- A lease as the columns of a row.
use Rattle.std.specs.Prelude.{◌≡◌, pos, Bool, true, ◌&&◌, ◌==◌, [], ◌∷◌, length, refl}
use Rattle.sqlite_value.specs.declared.value.Value.TheVariants.{Int, Text}
use Rattle.sqlite_value.specs.Order.{Row, column}
use Rattle.dh_values.proofs.Ascii.{and_left, and_right}
use Rattle.dh_values.specs.declared.limits.TheConstants.{LEAST_LEASE_MONTHS, MOST_LEASE_MONTHS}
use Rattle.dh_values.specs.declared.payment_method.PaymentMethod.{PaymentMethod}
use Rattle.dh_values.specs.declared.payment_method.PaymentMethod.TheVariants.{Cash, Cheque, Card, Transfer}
use Rattle.dh_values.specs.Kinds.{payment_method_of, payment_method_text}
use Rattle.dh_days.specs.Days.{day_text}
use Rattle.dh_types.specs.declared.lease.Lease.{Lease}
use Rattle.dh_rows.specs.Cells.{day_back, day_in, is_day_cell, is_id_cell, is_named_number_cell, is_number_cell, is_read_cell, is_rent_cell}
use Rattle.dh_rows.specs.Cells.{number_in, read_in, text_in}

abbrev pub lease_row : Lease → Row
lease_row l =
    Int (pos l.terms.number) ∷ Text l.terms.client ∷ Text l.terms.property ∷ Text (day_text l.terms.start) ∷ Int (pos l.terms.months)
    ∷ Text (payment_method_text l.terms.method) ∷ Int (pos l.rent) ∷ []

-- each column holds a value of its kind
abbrev pub is_lease_row : Row → Bool
is_lease_row row =
    (length row == 7) && is_named_number_cell (column row 0) && is_id_cell (column row 1) && is_id_cell (column row 2) && is_day_cell (column row 3)
    && is_number_cell LEAST_LEASE_MONTHS MOST_LEASE_MONTHS (column row 4) && is_read_cell payment_method_of (column row 5) && is_rent_cell (column row 6)

-- the lease that such a row is
abbrev pub lease_in : Row → Lease
lease_in row = record {
  terms = record {
    number = number_in (column row 0);
    client = text_in (column row 1);
    property = text_in (column row 2);
    start = day_in (column row 3);
    months = number_in (column row 4);
    method = read_in payment_method_of Cash (column row 5);
  };
  rent = number_in (column row 6);
}

method_back : (m : PaymentMethod) → read_in payment_method_of Cash (Text (payment_method_text m)) ≡ m
method_back Cash = refl
method_back Cheque = refl
method_back Card = refl
method_back Transfer = refl

-- a row is read back as what it was made of
pub lease_back : (l : Lease) → is_lease_row (lease_row l) ≡ true → lease_in (lease_row l) ≡ l
lease_back l good =
    let t = l.terms in
    let first = is_named_number_cell (Int (pos t.number)) && is_id_cell (Text t.client) && is_id_cell (Text t.property) in
    let start = day_back t.start (and_right first _ (and_left _ _ (and_left _ _ (and_left _ _ good)))) in
    λ i. record {
      terms = record { number = t.number; client = t.client; property = t.property; start = start i; months = t.months; method = method_back t.method i };
      rent = l.rent;
    }

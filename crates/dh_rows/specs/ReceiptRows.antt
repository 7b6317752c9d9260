-- A receipt as the columns of a row.
use Rattle.std.specs.Prelude.{◌≡◌, pos, Bool, true, ◌&&◌, ◌==◌, [], ◌∷◌, length, refl}
use Rattle.sqlite_value.specs.declared.value.Value.TheVariants.{Int, Text}
use Rattle.sqlite_value.specs.Order.{Row, column}
use Rattle.dh_values.proofs.Ascii.{and_right}
use Rattle.dh_values.specs.declared.receipt_kind.ReceiptKind.{ReceiptKind}
use Rattle.dh_values.specs.declared.receipt_kind.ReceiptKind.TheVariants.{Rent, Deposit}
use Rattle.dh_values.specs.Kinds.{receipt_kind_of, receipt_kind_text}
use Rattle.dh_days.specs.Days.{day_text}
use Rattle.dh_types.specs.declared.lease.Receipt.{Receipt}
use Rattle.dh_rows.specs.Cells.{day_back, day_in, is_amount_cell, is_day_cell, is_key_cell, is_named_number_cell, is_read_cell, number_in, read_in, text_in}

abbrev pub receipt_row : Receipt → Row
receipt_row r =
    Int (pos r.number) ∷ Text r.key ∷ Int (pos r.payment.lease) ∷ Text (receipt_kind_text r.payment.kind) ∷ Int (pos r.payment.amount)
    ∷ Text (day_text r.payment.day) ∷ []

-- each column holds a value of its kind
abbrev pub is_receipt_row : Row → Bool
is_receipt_row row =
    (length row == 6) && is_named_number_cell (column row 0) && is_key_cell (column row 1) && is_named_number_cell (column row 2)
    && is_read_cell receipt_kind_of (column row 3) && is_amount_cell (column row 4) && is_day_cell (column row 5)

-- the receipt that such a row is
abbrev pub receipt_in : Row → Receipt
receipt_in row = record {
  number = number_in (column row 0);
  key = text_in (column row 1);
  payment = record {
    lease = number_in (column row 2);
    kind = read_in receipt_kind_of Rent (column row 3);
    amount = number_in (column row 4);
    day = day_in (column row 5);
  };
}

kind_back : (k : ReceiptKind) → read_in receipt_kind_of Rent (Text (receipt_kind_text k)) ≡ k
kind_back Rent = refl
kind_back Deposit = refl

-- a row is read back as what it was made of
pub receipt_back : (r : Receipt) → is_receipt_row (receipt_row r) ≡ true → receipt_in (receipt_row r) ≡ r
receipt_back r good =
    let p = r.payment in
    let first = is_named_number_cell (Int (pos r.number)) && is_key_cell (Text r.key) && is_named_number_cell (Int (pos p.lease))
    && is_read_cell receipt_kind_of (Text (receipt_kind_text p.kind)) && is_amount_cell (Int (pos p.amount)) in
    let day = day_back p.day (and_right first _ good) in
    λ i. record { number = r.number; key = r.key; payment = record { lease = p.lease; kind = kind_back p.kind i; amount = p.amount; day = day i } }

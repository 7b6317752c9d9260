-- The kinds of fields: which texts each takes, and the value of each such text.
use Rattle.std.specs.Prelude.{ℕ, Bool, ◌||◌, if◌then◌else◌, ◌==◌, List, length, Option, Some, None, is_some, unwrap_or}
use Rattle.dh_values.specs.Texts.{is_id, is_key, is_text}
use Rattle.dh_values.specs.Money.{pence_of}
use Rattle.dh_values.specs.Numbers.{numeral_of, within}
use Rattle.dh_values.specs.Kinds.{payment_method_of, position_of, property_type_of, receipt_kind_of}
use Rattle.dh_values.specs.declared.payment_method.PaymentMethod.{PaymentMethod}
use Rattle.dh_values.specs.declared.payment_method.PaymentMethod.TheVariants.{Cash}
use Rattle.dh_values.specs.declared.position.Position.{Position}
use Rattle.dh_values.specs.declared.position.Position.TheVariants.{Manager}
use Rattle.dh_values.specs.declared.property_type.PropertyType.{PropertyType}
use Rattle.dh_values.specs.declared.property_type.PropertyType.TheVariants.{House}
use Rattle.dh_values.specs.declared.receipt_kind.ReceiptKind.{ReceiptKind}
use Rattle.dh_values.specs.declared.receipt_kind.ReceiptKind.TheVariants.{Rent}
use Rattle.dh_values.specs.declared.limits.TheConstants.{LEAST_LEASE_MONTHS, MOST_AMOUNT, MOST_BATCHES, MOST_FEE, MOST_LEASE_MONTHS, MOST_NUMBER}
use Rattle.dh_values.specs.declared.limits.TheConstants.{MOST_RENT, MOST_ROOMS}
use Rattle.dh_days.specs.Days.{day_of}
use Rattle.dh_days.specs.Months.{month_of}

pub record FieldKind (T : Type 0) : Type 0 where
  pub accepts : List ℕ → Bool
  pub value : List ℕ → T

-- texts that are values themselves
abbrev pub plain : (List ℕ → Bool) → FieldKind (List ℕ)
plain accepts = record { accepts = accepts; value = λ text. text }

-- Texts that spell a value. A text that spells none is in no request, and gets the other value.
abbrev pub spelled : {T : Type 0} → (List ℕ → Option T) → T → FieldKind T
spelled read other = record { accepts = λ text. is_some (read text); value = λ text. unwrap_or (read text) other }

-- texts of this kind, and the empty one
abbrev pub optional : {T : Type 0} → FieldKind T → FieldKind (Option T)
optional kind = record {
  accepts = λ text. (length text == 0) || kind.accepts text;
  value = λ text. if length text == 0 then None else Some (kind.value text);
}

unfoldable pub id : FieldKind (List ℕ)
id = plain is_id

unfoldable pub key : FieldKind (List ℕ)
key = plain is_key

-- texts of so many characters at most
unfoldable pub text : ℕ → FieldKind (List ℕ)
text most = plain (is_text most)

abbrev pub text60 : FieldKind (List ℕ)
text60 = text 60

abbrev pub comment : FieldKind (List ℕ)
comment = text 200

-- numbers from the least to the greatest
unfoldable pub count : ℕ → ℕ → FieldKind ℕ
count low high = spelled (λ text. within low high (numeral_of text)) low

abbrev pub lease_no : FieldKind ℕ
lease_no = count 1 MOST_NUMBER

abbrev pub rooms : FieldKind ℕ
rooms = count 1 MOST_ROOMS

abbrev pub months : FieldKind ℕ
months = count LEAST_LEASE_MONTHS MOST_LEASE_MONTHS

abbrev pub fee : FieldKind ℕ
fee = count 0 MOST_FEE

abbrev pub batch_count : FieldKind ℕ
batch_count = count 1 MOST_BATCHES

-- money of so many pence at most
unfoldable pub money : ℕ → FieldKind ℕ
money most = spelled (λ text. within 1 most (pence_of text)) 1

abbrev pub rent : FieldKind ℕ
rent = money MOST_RENT

abbrev pub amount : FieldKind ℕ
amount = money MOST_AMOUNT

unfoldable pub day : FieldKind ℕ
day = spelled day_of 0

unfoldable pub month : FieldKind ℕ
month = spelled month_of 0

unfoldable pub position : FieldKind Position
position = spelled position_of Manager

unfoldable pub property_type : FieldKind PropertyType
property_type = spelled property_type_of House

unfoldable pub method : FieldKind PaymentMethod
method = spelled payment_method_of Cash

unfoldable pub receipt_kind : FieldKind ReceiptKind
receipt_kind = spelled receipt_kind_of Rent

-- The kinds of things, and the text of each.
use Rattle.std.specs.Prelude.{ℕ, if◌then◌else◌, Option, Some, None, List, bytes_eq, codes}
use Rattle.dh_values.specs.declared.property_type.PropertyType.{PropertyType}
use Rattle.dh_values.specs.declared.property_type.PropertyType.TheVariants.{House, Flat}
use Rattle.dh_values.specs.declared.position.Position.{Position}
use Rattle.dh_values.specs.declared.position.Position.TheVariants.{Manager, Supervisor, Assistant}
use Rattle.dh_values.specs.declared.payment_method.PaymentMethod.{PaymentMethod}
use Rattle.dh_values.specs.declared.payment_method.PaymentMethod.TheVariants.{Cash, Cheque, Card, Transfer}
use Rattle.dh_values.specs.declared.receipt_kind.ReceiptKind.{ReceiptKind}
use Rattle.dh_values.specs.declared.receipt_kind.ReceiptKind.TheVariants.{Rent, Deposit}

abbrev pub property_type_text : PropertyType → List ℕ
property_type_text House = codes "House"
property_type_text Flat = codes "Flat"

-- the type that a text names
abbrev pub property_type_of : List ℕ → Option PropertyType
property_type_of text =
    if bytes_eq text (codes "House") then Some House
    else if bytes_eq text (codes "Flat") then Some Flat
    else None

abbrev pub position_text : Position → List ℕ
position_text Manager = codes "Manager"
position_text Supervisor = codes "Supervisor"
position_text Assistant = codes "Assistant"

-- the position that a text names
abbrev pub position_of : List ℕ → Option Position
position_of text =
    if bytes_eq text (codes "Manager") then Some Manager
    else if bytes_eq text (codes "Supervisor") then Some Supervisor
    else if bytes_eq text (codes "Assistant") then Some Assistant
    else None

abbrev pub payment_method_text : PaymentMethod → List ℕ
payment_method_text Cash = codes "Cash"
payment_method_text Cheque = codes "Cheque"
payment_method_text Card = codes "Card"
payment_method_text Transfer = codes "Transfer"

-- the method that a text names
abbrev pub payment_method_of : List ℕ → Option PaymentMethod
payment_method_of text =
    if bytes_eq text (codes "Cash") then Some Cash
    else if bytes_eq text (codes "Cheque") then Some Cheque
    else if bytes_eq text (codes "Card") then Some Card
    else if bytes_eq text (codes "Transfer") then Some Transfer
    else None

abbrev pub receipt_kind_text : ReceiptKind → List ℕ
receipt_kind_text Rent = codes "rent"
receipt_kind_text Deposit = codes "deposit"

-- the kind that a text names
abbrev pub receipt_kind_of : List ℕ → Option ReceiptKind
receipt_kind_of text =
    if bytes_eq text (codes "rent") then Some Rent
    else if bytes_eq text (codes "deposit") then Some Deposit
    else None

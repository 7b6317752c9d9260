-- Values that compare as the same are one.
use Rattle.std.proofs.Common.{◌≡◌, refl, ap, ℕ, Bool, true, false, Option, Some, None, nat_eq, arith}
use Rattle.std.specs.Cmp.Lexicographic.{pointwise}
use Rattle.std.proofs.lemmas.Bool.Decides.{nat_tests}
use Rattle.std.proofs.lemmas.Slice.Eq.{bytes_eq-Decides}
use Rattle.dh_values.specs.declared.property_type.PropertyType.{PropertyType}
use Rattle.dh_values.specs.declared.property_type.PropertyType.TheVariants as property_type
use Rattle.dh_values.specs.declared.position.Position.{Position}
use Rattle.dh_values.specs.declared.position.Position.TheVariants as position
use Rattle.dh_values.specs.declared.payment_method.PaymentMethod.{PaymentMethod}
use Rattle.dh_values.specs.declared.payment_method.PaymentMethod.TheVariants as payment_method
use Rattle.dh_values.specs.declared.receipt_kind.ReceiptKind.{ReceiptKind}
use Rattle.dh_values.specs.declared.receipt_kind.ReceiptKind.TheVariants as receipt_kind
use Rattle.dh_types.specs.Laws.{TellsApart}
use Rattle.dh_types.specs.Records.{is_same_flag, is_same_optional, is_same_property_type, is_same_position, is_same_payment_method, is_same_receipt_kind}

pub texts : TellsApart (pointwise nat_eq)
texts s t = bytes_eq-Decides s t

equal_numbers : (m n : ℕ) → nat_eq m n ≡ true → m ≡ n
equal_numbers m n h = grind (arith, nat_tests)

number_itself : (m n : ℕ) → m ≡ n → nat_eq m n ≡ true
number_itself m n e = grind (arith, nat_tests)

pub numbers : TellsApart nat_eq
numbers m n = (equal_numbers m n, number_itself m n)

equal_flags : (a b : Bool) → is_same_flag a b ≡ true → a ≡ b
equal_flags true true h = refl
equal_flags false false h = refl
equal_flags a b h = cc

flag_itself : (a : Bool) → is_same_flag a a ≡ true
flag_itself true = refl
flag_itself false = refl

pub flags : TellsApart is_same_flag
flags a b = (equal_flags a b, λ e. rw (← e) (flag_itself a))

module _ {T : Type 0} (is_same : T → T → Bool) (apart : TellsApart is_same) where
  equal_optional : (a b : Option T) → is_same_optional is_same a b ≡ true → a ≡ b
  equal_optional None None h = refl
  equal_optional (Some a) (Some b) h = ap (λ x. Some x) ((apart a b).0 h)
  equal_optional None (Some b) h = cc
  equal_optional (Some a) None h = cc

  optional_itself : (a : Option T) → is_same_optional is_same a a ≡ true
  optional_itself None = refl
  optional_itself (Some a) = (apart a a).1 refl

  pub optional : TellsApart (is_same_optional is_same)
  optional a b = (equal_optional a b, λ e. rw (← e) (optional_itself a))

equal_property_types : (a b : PropertyType) → is_same_property_type a b ≡ true → a ≡ b
equal_property_types property_type.House property_type.House h = refl
equal_property_types property_type.Flat property_type.Flat h = refl
equal_property_types a b h = cc

property_type_itself : (a : PropertyType) → is_same_property_type a a ≡ true
property_type_itself property_type.House = refl
property_type_itself property_type.Flat = refl

pub property_types : TellsApart is_same_property_type
property_types a b = (equal_property_types a b, λ e. rw (← e) (property_type_itself a))

equal_positions : (a b : Position) → is_same_position a b ≡ true → a ≡ b
equal_positions position.Manager position.Manager h = refl
equal_positions position.Supervisor position.Supervisor h = refl
equal_positions position.Assistant position.Assistant h = refl
equal_positions a b h = cc

position_itself : (a : Position) → is_same_position a a ≡ true
position_itself position.Manager = refl
position_itself position.Supervisor = refl
position_itself position.Assistant = refl

pub positions : TellsApart is_same_position
positions a b = (equal_positions a b, λ e. rw (← e) (position_itself a))

equal_payment_methods : (a b : PaymentMethod) → is_same_payment_method a b ≡ true → a ≡ b
equal_payment_methods payment_method.Cash payment_method.Cash h = refl
equal_payment_methods payment_method.Cheque payment_method.Cheque h = refl
equal_payment_methods payment_method.Card payment_method.Card h = refl
equal_payment_methods payment_method.Transfer payment_method.Transfer h = refl
equal_payment_methods a b h = cc

payment_method_itself : (a : PaymentMethod) → is_same_payment_method a a ≡ true
payment_method_itself payment_method.Cash = refl
payment_method_itself payment_method.Cheque = refl
payment_method_itself payment_method.Card = refl
payment_method_itself payment_method.Transfer = refl

pub payment_methods : TellsApart is_same_payment_method
payment_methods a b = (equal_payment_methods a b, λ e. rw (← e) (payment_method_itself a))

equal_receipt_kinds : (a b : ReceiptKind) → is_same_receipt_kind a b ≡ true → a ≡ b
equal_receipt_kinds receipt_kind.Rent receipt_kind.Rent h = refl
equal_receipt_kinds receipt_kind.Deposit receipt_kind.Deposit h = refl
equal_receipt_kinds a b h = cc

receipt_kind_itself : (a : ReceiptKind) → is_same_receipt_kind a a ≡ true
receipt_kind_itself receipt_kind.Rent = refl
receipt_kind_itself receipt_kind.Deposit = refl

pub receipt_kinds : TellsApart is_same_receipt_kind
receipt_kinds a b = (equal_receipt_kinds a b, λ e. rw (← e) (receipt_kind_itself a))

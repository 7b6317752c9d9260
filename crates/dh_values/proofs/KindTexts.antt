-- Reading the text of a kind, which is one of a few words.
use Rattle.std.proofs.Common.{◌≡◌, ◌∙◌, sym, ap, ℕ, Bool, true, false, if◌then◌else◌, Option, Some, None, List, codes, refl}
use Rattle.std.specs.Str.{bytes_eq}
use Rattle.std.proofs.lemmas.Slice.Eq.{bytes_eq-Decides}
use Rattle.dh_values.specs.Kinds.{payment_method_of, payment_method_text, position_of, position_text, property_type_of, property_type_text}
use Rattle.dh_values.specs.Kinds.{receipt_kind_of, receipt_kind_text}
use Rattle.dh_values.specs.Laws.{HaveOneText, IsAny}
use Rattle.dh_values.specs.declared.property_type.PropertyType.{PropertyType}
use Rattle.dh_values.specs.declared.property_type.PropertyType.TheVariants.{House, Flat}
use Rattle.dh_values.specs.declared.position.Position.{Position}
use Rattle.dh_values.specs.declared.position.Position.TheVariants.{Manager, Supervisor, Assistant}
use Rattle.dh_values.specs.declared.payment_method.PaymentMethod.{PaymentMethod}
use Rattle.dh_values.specs.declared.payment_method.PaymentMethod.TheVariants.{Cash, Cheque, Card, Transfer}
use Rattle.dh_values.specs.declared.receipt_kind.ReceiptKind.{ReceiptKind}
use Rattle.dh_values.specs.declared.receipt_kind.ReceiptKind.TheVariants.{Rent, Deposit}

some_is : {A : Type 0} (x y : A) → Some x ≡ Some y → x ≡ y
some_is x y h = cc

-- what is read back prints apart
apart : {A : Type 0} (text_of : A → List ℕ) (read : List ℕ → Option A) → ((x : A) → read (text_of x) ≡ Some x) → (x y : A) → text_of x ≡ text_of y → x ≡ y
apart text_of read back x y e = some_is x y (sym (back x) ∙ ap read e ∙ back y)

-- each word is one of the kind's
words : {A : Type 0} (text_of : A → List ℕ) (read : List ℕ → Option A) → ((x : A) → read (text_of x) ≡ Some x)
    → ((x : A) (text : List ℕ) → read text ≡ Some x → text_of x ≡ text) → HaveOneText IsAny text_of read
words text_of read back printed = record { read_back = λ x _. back x; printed_back = printed; apart = λ x y _ _ e. apart text_of read back x y e }

tested : {A : Type 0} (text_of : A → List ℕ) (text word : List ℕ) (v x : A) (rest : Option A) (b : Bool) → (b ≡ true → text ≡ word) → text_of v ≡ word
    → (rest ≡ Some x → text_of x ≡ text) → (if b then Some v else rest) ≡ Some x → text_of x ≡ text
tested text_of text word v x rest true same w r h = ap text_of (sym (some_is v x h)) ∙ w ∙ sym (same (λ i. true))
tested text_of text word v x rest false same w r h = r h

-- the text is this word, or is read by the rest
named : {A : Type 0} (text_of : A → List ℕ) (text word : List ℕ) (v x : A) (rest : Option A) → text_of v ≡ word
    → (rest ≡ Some x → text_of x ≡ text) → (if bytes_eq text word then Some v else rest) ≡ Some x → text_of x ≡ text
named text_of text word v x rest w r h = tested text_of text word v x rest (bytes_eq text word) ((bytes_eq-Decides text word).0) w r h

no_word : {A : Type 0} (x : A) (text other : List ℕ) → None ≡ Some x → other ≡ text
no_word x text other h = absurd (cc)

-- ---- the kinds

property_types_back : (x : PropertyType) → property_type_of (property_type_text x) ≡ Some x
property_types_back House = refl
property_types_back Flat = refl

pub property_types : HaveOneText IsAny property_type_text property_type_of
property_types = words property_type_text property_type_of property_types_back
    (λ x text. named property_type_text text (codes "House") House x _ refl
    (named property_type_text text (codes "Flat") Flat x _ refl (no_word x text _)))

positions_back : (x : Position) → position_of (position_text x) ≡ Some x
positions_back Manager = refl
positions_back Supervisor = refl
positions_back Assistant = refl

pub positions : HaveOneText IsAny position_text position_of
positions = words position_text position_of positions_back
    (λ x text. named position_text text (codes "Manager") Manager x _ refl
    (named position_text text (codes "Supervisor") Supervisor x _ refl (named position_text text (codes "Assistant") Assistant x _ refl (no_word x text _))))

payment_methods_back : (x : PaymentMethod) → payment_method_of (payment_method_text x) ≡ Some x
payment_methods_back Cash = refl
payment_methods_back Cheque = refl
payment_methods_back Card = refl
payment_methods_back Transfer = refl

pub payment_methods : HaveOneText IsAny payment_method_text payment_method_of
payment_methods = words payment_method_text payment_method_of payment_methods_back
    (λ x text. named payment_method_text text (codes "Cash") Cash x _ refl
    (named payment_method_text text (codes "Cheque") Cheque x _ refl (named payment_method_text text (codes "Card") Card x _ refl
    (named payment_method_text text (codes "Transfer") Transfer x _ refl (no_word x text _)))))

receipt_kinds_back : (x : ReceiptKind) → receipt_kind_of (receipt_kind_text x) ≡ Some x
receipt_kinds_back Rent = refl
receipt_kinds_back Deposit = refl

pub receipt_kinds : HaveOneText IsAny receipt_kind_text receipt_kind_of
receipt_kinds = words receipt_kind_text receipt_kind_of receipt_kinds_back
    (λ x text. named receipt_kind_text text (codes "rent") Rent x _ refl
    (named receipt_kind_text text (codes "deposit") Deposit x _ refl (no_word x text _)))

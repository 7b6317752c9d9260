-- What the definitions owe each other.
use Rattle.std.specs.Prelude.{ℕ, pos, ◌≡◌, ◌≤◌, FitsSigned, Option, Some, List}
use mir.Syntax.{w128}
use Rattle.dh_values.specs.declared.limits.TheConstants.{MOST_AMOUNT}
use Rattle.dh_values.specs.Money.{pence_of, pence_text, money_text}

-- a value that is printed and read is itself
abbrev pub AreReadBack : {A : Type 0} → (A → Type 0) → (A → List ℕ) → (List ℕ → Option A) → Type 0
AreReadBack {A} IsValue text_of read = (x : A) → IsValue x → read (text_of x) ≡ Some x

-- values that print as one are one
abbrev pub PrintApart : {A : Type 0} → (A → Type 0) → (A → List ℕ) → Type 0
PrintApart {A} IsValue text_of = (x y : A) → IsValue x → IsValue y → text_of x ≡ text_of y → x ≡ y

-- a text that is read is what its value prints as: no value has two texts
abbrev pub ArePrintedBack : {A : Type 0} → (A → List ℕ) → (List ℕ → Option A) → Type 0
ArePrintedBack {A} text_of read = (x : A) (text : List ℕ) → read text ≡ Some x → text_of x ≡ text

-- each value has one text, and a text that is read is of one value
pub record HaveOneText {A : Type 0} (IsValue : A → Type 0) (text_of : A → List ℕ) (read : List ℕ → Option A) : Type 0 where
  pub read_back : AreReadBack IsValue text_of read
  pub printed_back : ArePrintedBack text_of read
  pub apart : PrintApart IsValue text_of

-- each of a kind is a value
abbrev pub IsAny : {A : Type 0} → A → Type 0
IsAny _ = Unit {0}

-- pence that a text can spell are read as they are printed
abbrev pub PenceAreReadBack : Type 0
PenceAreReadBack = AreReadBack (λ p. p ≤ MOST_AMOUNT) pence_text pence_of

-- any two balances that print as one are one
abbrev pub BalancesPrintApart : Type 0
BalancesPrintApart = PrintApart (FitsSigned w128) money_text

-- what a text spells is printed as a text that spells the same
abbrev pub MoneyIsReadAgain : Type 0
MoneyIsReadAgain = (p : ℕ) (text : List ℕ) → pence_of text ≡ Some p → pence_of (pence_text p) ≡ Some p

-- A row is the list of its columns.
use Rattle.std.proofs.Common.{◌≡◌, ◌∙◌, refl, ap, subst, ℕ, zero, suc, [], ◌∷◌, length}
use Rattle.sqlite_value.specs.declared.value.Value.{Value}
use Rattle.sqlite_value.specs.Order.{Row, column}

-- so many columns, from this one on
abbrev columns_from : Row → ℕ → ℕ → Row
columns_from row at zero = []
columns_from row at (suc n) = column row at ∷ columns_from row (suc at) n

shifted : (x : Value) (row : Row) (at n : ℕ) → columns_from (x ∷ row) (suc at) n ≡ columns_from row at n
shifted x row at zero = refl
shifted x row at (suc n) = ap (λ rest. column row at ∷ rest) (shifted x row (suc at) n)

all_columns : (row : Row) → columns_from row 0 (length row) ≡ row
all_columns [] = refl
all_columns (x ∷ row) = ap (λ rest. x ∷ rest) (shifted x row 0 (length row) ∙ all_columns row)

of_length : (n : ℕ) (row : Row) → length row ≡ n → columns_from row 0 n ≡ row
of_length n row h = subst (λ k. columns_from row 0 k ≡ row) h (all_columns row)

pub six_columns : (row : Row) → length row ≡ 6
    → column row 0 ∷ column row 1 ∷ column row 2 ∷ column row 3 ∷ column row 4 ∷ column row 5 ∷ [] ≡ row
six_columns row h = of_length 6 row h

pub seven_columns : (row : Row) → length row ≡ 7
    → column row 0 ∷ column row 1 ∷ column row 2 ∷ column row 3 ∷ column row 4 ∷ column row 5 ∷ column row 6 ∷ [] ≡ row
seven_columns row h = of_length 7 row h

pub ten_columns : (row : Row) → length row ≡ 10
    → column row 0 ∷ column row 1 ∷ column row 2 ∷ column row 3 ∷ column row 4 ∷ column row 5 ∷ column row 6 ∷ column row 7 ∷ column row 8 ∷ column row 9 ∷ []
    ≡ row
ten_columns row h = of_length 10 row h

-- Lists by their places.
use Rattle.std.proofs.Common.{◌≡◌, ◌∙◌, refl, sym, ap, subst, inl, inr, ℕ, zero, suc, ◌+◌, ◌<◌, ◌≤◌, Bool, cond, List, [], ◌∷◌, ◌++◌, map, length}
use Rattle.std.proofs.Common.{arith}
use Rattle.std.specs.List.{filter, range_with_len}
use Rattle.dh_model.proofs.Among.{Among, of_right}
use Rattle.dh_model.proofs.Rising.{Rises}

-- P holds of each element and its number, from j on
abbrev pub AreFrom : {X : Type 0} → (ℕ → X → Type 0) → ℕ → List X → Type 0
AreFrom P j [] = Unit {0}
AreFrom P j (x ∷ xs) = P j x × AreFrom P (j + 1) xs

module _ {X : Type 0} (P : ℕ → X → Type 0) where
  pub from_both : (j : ℕ) (xs ys : List X) → AreFrom P j xs → AreFrom P (j + length xs) ys → AreFrom P j (xs ++ ys)
  from_both j [] ys a b = let same : j + 0 ≡ j = omega arith in subst (λ n. AreFrom P n ys) same b
  from_both j (x ∷ xs) ys a b =
      let same : j + length (x ∷ xs) ≡ j + 1 + length xs = omega arith in
      (a.0, from_both (j + 1) xs ys a.1 (subst (λ n. AreFrom P n ys) same b))

  -- f of the numbers from a on
  pub from_range : (f : ℕ → X) (a n j : ℕ) → ((i at : ℕ) → a ≤ i → i < a + n → at + a ≡ j + i → P at (f i)) → AreFrom P j (map f (range_with_len a n))
  from_range f a zero j each = tt
  from_range f a (suc n) j each = (
    each a j (omega arith) (omega arith) (omega arith),
    from_range f (a + 1) n (j + 1) (λ i at from until is. each i at (omega (arith, from)) (omega (arith, until)) (omega (arith, is))),
  )

-- tests that agree on the elements keep the same
pub filter_alike : {X : Type 0} (p q : X → Bool) (xs : List X) → ((x : X) → Among xs x → p x ≡ q x) → filter p xs ≡ filter q xs
filter_alike p q [] same = refl
filter_alike p q (x ∷ xs) same =
    ap (λ b. cond b (x ∷ filter p xs) (filter p xs)) (same x (inl refl))
    ∙ ap (λ ks. cond (q x) (x ∷ ks) ks) (filter_alike p q xs (λ y a. same y (inr a)))

module _ {X : Type 0} (Before : X → X → Type 0) where
  -- where two lists rise, one after the other, so does the second
  pub second_rises : (xs ys : List X) → Rises Before (xs ++ ys) → Rises Before ys
  second_rises [] ys r = r
  second_rises (x ∷ xs) ys r = second_rises xs ys r.1

  -- and each of the first is before each of the second
  pub first_before : (xs ys : List X) (x y : X) → Rises Before (xs ++ ys) → Among xs x → Among ys y → Before x y
  first_before [] ys x y r a b = absurd a
  first_before (z ∷ xs) ys x y r (inl e) b = subst (λ w. Before w y) (sym e) (r.0 y (of_right xs ys y b))
  first_before (z ∷ xs) ys x y r (inr a) b = first_before xs ys x y r.1 a b

-- What holds of any two elements, whichever stands first, holds after a change of their order.
use Rattle.std.proofs.Common.{◌≡◌, ◌⊎◌, sym, subst, inl, inr, ℕ, ◌<◌, List, length, slice_index_or, arith}
use Rattle.std.specs.List.{AllPairs, swap}
use Rattle.std.specs.List.Sorted.{IsPermutation}
use Rattle.std.proofs.lemmas.Bool.{cases_eq, cases_lt}
use Rattle.std.proofs.lemmas.List.Edits.{Swapped, swapped_from_swap}
use Rattle.std.proofs.lemmas.List.Sorted.{IsPermutation-keeps, IsPermutation-swap, length_permutation}

-- where the element at i stood before those at a and b changed places
abbrev Stood : ℕ → ℕ → ℕ → ℕ → Type 0
Stood a b i j = ((i ≡ a) × (j ≡ b)) ⊎ (((i ≡ b) × (j ≡ a)) ⊎ ((i ≡ a → ⊥) × (i ≡ b → ⊥) × (j ≡ i)))

stood_apart : (a b i j k l : ℕ) → Stood a b i k → Stood a b j l → (i ≡ j → ⊥) → k ≡ l → ⊥
stood_apart a b i j k l (inl p) (inl q) apart same = apart (omega (arith, p.0, q.0))
stood_apart a b i j k l (inl p) (inr (inl q)) apart same = apart (omega (arith, p.0, p.1, q.0, q.1, same))
stood_apart a b i j k l (inl p) (inr (inr q)) apart same = q.1 (omega (arith, p.1, q.2, same))
stood_apart a b i j k l (inr (inl p)) (inl q) apart same = apart (omega (arith, p.0, p.1, q.0, q.1, same))
stood_apart a b i j k l (inr (inl p)) (inr (inl q)) apart same = apart (omega (arith, p.0, q.0))
stood_apart a b i j k l (inr (inl p)) (inr (inr q)) apart same = q.0 (omega (arith, p.1, q.2, same))
stood_apart a b i j k l (inr (inr p)) (inl q) apart same = p.1 (omega (arith, q.1, p.2, same))
stood_apart a b i j k l (inr (inr p)) (inr (inl q)) apart same = p.0 (omega (arith, q.1, p.2, same))
stood_apart a b i j k l (inr (inr p)) (inr (inr q)) apart same = apart (omega (arith, p.2, q.2, same))

module _ {X : Type 0} (R : X → X → Type 0) where
  abbrev AnyTwo : List X → Type 0
  AnyTwo xs = (i j : ℕ) (d : X) → i < length xs → j < length xs → (i ≡ j → ⊥) → R (slice_index_or xs i d) (slice_index_or xs j d)

  stood : (xs ys : List X) (a b i : ℕ) (d : X) → a < length xs → b < length xs → i < length xs
      → Swapped (λ i. slice_index_or xs i d) (λ i. slice_index_or ys i d) a b
      → (j : ℕ) × (j < length xs) × Stood a b i j × (slice_index_or ys i d ≡ slice_index_or xs j d)
  stood xs ys a b i d p q h swapped = elim (cases_eq i a) [
    | inl e ↦ let at_a : slice_index_or ys i d ≡ slice_index_or xs b d = subst (λ n. slice_index_or ys n d ≡ slice_index_or xs b d) (sym e) swapped.0 in
        (b, q, inl (e, λ _. b), at_a)
    | inr ne ↦ elim (cases_eq i b) [
      | inl e ↦ let at_b : slice_index_or ys i d ≡ slice_index_or xs a d = subst (λ n. slice_index_or ys n d ≡ slice_index_or xs a d) (sym e) swapped.1 in
          (a, p, inr (inl (e, λ _. a)), at_b)
      | inr nf ↦ (i, h, inr (inr (ne, nf, λ _. i)), swapped.2 i ne nf)
    ]
  ]

  swapped_keeps : (xs : List X) (a b : ℕ) → a < length xs → b < length xs → AnyTwo xs → AnyTwo (swap xs a b)
  swapped_keeps xs a b p q all i j d h k apart =
      let long : length (swap xs a b) ≡ length xs = length_permutation xs (swap xs a b) (IsPermutation-swap xs (swap xs a b) a b p q (λ _. swap xs a b)) in
      let swapped = swapped_from_swap xs (swap xs a b) a b d p q (λ _. swap xs a b) in
      let one = stood xs (swap xs a b) a b i d p q (omega (arith, h, long)) swapped in
      let other = stood xs (swap xs a b) a b j d p q (omega (arith, k, long)) swapped in
      let there = all one.0 other.0 d one.1 other.1 (stood_apart a b i j one.0 other.0 one.2 other.2 apart) in
      subst (λ x. R x (slice_index_or (swap xs a b) j d)) (sym one.3) (subst (λ x. R (slice_index_or xs one.0 d) x) (sym other.3) there)

  module _ (back : (x y : X) → R x y → R y x) where
    any_two : (xs : List X) → AllPairs R xs → AnyTwo xs
    any_two xs h i j d p q apart = elim (cases_lt i j) [
      | inl lt ↦ h i j d lt q
      | inr ge ↦ back (slice_index_or xs j d) (slice_index_or xs i d) (h j i d (omega (arith, ge, apart)) p)
    ]

    pub pairs_permuted : (xs ys : List X) → IsPermutation xs ys → AllPairs R xs → AllPairs R ys
    pairs_permuted xs ys moved h =
        let all = IsPermutation-keeps xs AnyTwo (any_two xs h) swapped_keeps ys moved in
        λ i j d before within. all i j d (omega (arith, before, within)) within (λ same. omega (arith, before, same))

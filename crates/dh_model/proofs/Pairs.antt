-- What holds of any two elements of a list, the first before the second.
use Rattle.std.proofs.Common.{sym, subst, inl, inr, refl, ℕ, zero, suc, ◌<◌, List, [], ◌∷◌, ◌++◌, length, slice_index_or, arith}
use Rattle.std.specs.List.{AllPairs}
use Rattle.dh_model.proofs.Among.{Among, in_append, is_among, of_left, of_right}
use Rattle.dh_model.proofs.Rising.{Rises}

module _ {X : Type 0} where
  at_index : (xs : List X) (i : ℕ) (d : X) → i < length xs → Among xs (slice_index_or xs i d)
  at_index [] i d h = absurd (omega (arith, h))
  at_index (x ∷ xs) zero d h = inl refl
  at_index (x ∷ xs) (suc i) d h = inr (at_index xs i d (omega (arith, h)))

  module _ (P : X → X → Type 0) where
    pub pairs_rise : (xs : List X) → AllPairs P xs → Rises P xs
    pairs_rise [] h = tt
    pairs_rise (x ∷ xs) h = (
      λ y a. let at = is_among xs y a in subst (P x) (sym at.1.1) (h 0 (suc at.0) y (omega arith) (omega (arith, at.1.0))),
      pairs_rise xs (λ i j d p q. h (suc i) (suc j) d (omega (arith, p)) (omega (arith, q))),
    )

    pub rising_pairs : (xs : List X) → Rises P xs → AllPairs P xs
    rising_pairs [] r i j d p q = absurd (omega (arith, q))
    rising_pairs (x ∷ xs) r zero zero d p q = absurd (omega (arith, p))
    rising_pairs (x ∷ xs) r zero (suc j) d p q = r.0 (slice_index_or xs j d) (at_index xs j d (omega (arith, q)))
    rising_pairs (x ∷ xs) r (suc i) zero d p q = absurd (omega (arith, p))
    rising_pairs (x ∷ xs) r (suc i) (suc j) d p q = rising_pairs xs r.1 i j d (omega (arith, p)) (omega (arith, q))

    before_put : (x v : X) (xs ys : List X) (y : X) → ((y : X) → Among (xs ++ ys) y → P x y) → P x v → Among (xs ++ v ∷ ys) y → P x y
    before_put x v xs ys y rest own a = elim (in_append xs (v ∷ ys) y a) [
      | inl l ↦ rest y (of_left xs ys y l)
      | inr (inl e) ↦ subst (P x) (sym e) own
      | inr (inr r) ↦ rest y (of_right xs ys y r)
    ]

    -- one more element, where it is on both sides of each
    pub rises_put : (xs ys : List X) (v : X) → Rises P (xs ++ ys) → ((x : X) → Among (xs ++ ys) x → P x v × P v x) → Rises P (xs ++ v ∷ ys)
    rises_put [] ys v r both = (λ y a. (both y a).1, r)
    rises_put (x ∷ xs) ys v r both = (λ y a. before_put x v xs ys y r.0 (both x (inl refl)).0 a, rises_put xs ys v r.1 (λ y a. both y (inr a)))

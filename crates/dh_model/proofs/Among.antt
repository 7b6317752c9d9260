-- What is among the elements of a list.
use Rattle.std.proofs.Common.{◌≡◌, ◌⊎◌, refl, inl, inr, ℕ, zero, suc, ◌+◌, ◌<◌, ◌≤◌, Bool, true, false, cond, List, [], ◌∷◌, ◌++◌, map, length, slice_index_or}
use Rattle.std.proofs.Common.{arith}
use Rattle.std.specs.List.{IsAmong, filter, flat_map, list_any, range_with_len}
use Rattle.std.proofs.lemmas.Bool.{cases_lt, or_cases, or_left, or_right}

-- v is the first, or among the others
abbrev pub Among : {X : Type 0} → List X → X → Type 0
Among [] v = ⊥
Among (x ∷ xs) v = (v ≡ x) ⊎ Among xs v

-- the same by the index
among_at : {X : Type 0} (xs : List X) (v : X) (i : ℕ) → i < length xs → v ≡ slice_index_or xs i v → Among xs v
among_at [] v i h e = absurd (omega (arith, h))
among_at (x ∷ xs) v zero h e = inl e
among_at (x ∷ xs) v (suc i) h e = inr (among_at xs v i (omega (arith, h)) e)

pub among : {X : Type 0} (xs : List X) (v : X) → IsAmong xs v → Among xs v
among xs v h = among_at xs v h.0 h.1.0 h.1.1

later : {X : Type 0} (x v : X) (xs : List X) → IsAmong xs v → IsAmong (x ∷ xs) v
later x v xs h = (suc h.0, (omega (arith, h.1.0), h.1.1))

pub is_among : {X : Type 0} (xs : List X) (v : X) → Among xs v → IsAmong xs v
is_among [] v h = absurd h
is_among (x ∷ xs) v (inl e) = (0, (omega arith, e))
is_among (x ∷ xs) v (inr h) = later x v xs (is_among xs v h)

module _ {X : Type 0} (p : X → Bool) where
  kept_step : (b : Bool) (x v : X) (xs ks : List X) → p x ≡ b → (Among ks v → Among xs v × (p v ≡ true)) → Among (cond b (x ∷ ks) ks) v → Among (x ∷ xs) v
      × (p v ≡ true)
  kept_step true x v xs ks e rest (inl s) = (inl s, rw s e)
  kept_step true x v xs ks e rest (inr h) = (inr (rest h).0, (rest h).1)
  kept_step false x v xs ks e rest h = (inr (rest h).0, (rest h).1)

  -- what a filter keeps was there, and passes
  pub in_filter : (xs : List X) (v : X) → Among (filter p xs) v → Among xs v × (p v ≡ true)
  in_filter [] v h = absurd h
  in_filter (x ∷ xs) v h = kept_step (p x) x v xs (filter p xs) refl (in_filter xs v) h

  keeps_step : (b : Bool) (x v : X) (ks : List X) → p x ≡ b → p v ≡ true → (v ≡ x) ⊎ Among ks v → Among (cond b (x ∷ ks) ks) v
  keeps_step true x v ks e t h = h
  keeps_step false x v ks e t (inl s) = let passes = rw s at t in cc
  keeps_step false x v ks e t (inr h) = h

  -- and what passes is kept
  pub of_filter : (xs : List X) (v : X) → p v ≡ true → Among xs v → Among (filter p xs) v
  of_filter [] v t h = absurd h
  of_filter (x ∷ xs) v t (inl s) = keeps_step (p x) x v (filter p xs) refl t (inl s)
  of_filter (x ∷ xs) v t (inr h) = keeps_step (p x) x v (filter p xs) refl t (inr (of_filter xs v t h))

  -- some element passes
  pub some_passes : (xs : List X) → list_any p xs ≡ true → (x : X) × Among xs x × (p x ≡ true)
  some_passes [] h = cc
  some_passes (x ∷ xs) h = elim (or_cases (p x) (list_any p xs) h) [
    | inl t ↦ (x, inl refl, t)
    | inr t ↦ let s = some_passes xs t in (s.0, inr s.1, s.2)
  ]

  pub of_passes : (xs : List X) (x : X) → Among xs x → p x ≡ true → list_any p xs ≡ true
  of_passes [] x h t = absurd h
  of_passes (y ∷ xs) x (inl s) t = or_left (p y) (list_any p xs) (rw s at t)
  of_passes (y ∷ xs) x (inr h) t = or_right (p y) (list_any p xs) (of_passes xs x h t)

-- n numbers from a on are those from a on and below a + n
pub in_range : (a n v : ℕ) → Among (range_with_len a n) v → (a ≤ v) × (v < a + n)
in_range a zero v h = absurd h
in_range a (suc n) v (inl s) = (omega (arith, s), omega (arith, s))
in_range a (suc n) v (inr h) = let r = in_range (a + 1) n v h in (omega (arith, r.0), omega (arith, r.1))

pub of_range : (a n v : ℕ) → a ≤ v → v < a + n → Among (range_with_len a n) v
of_range a zero v from until = absurd (omega (arith, from, until))
of_range a (suc n) v from until = elim (cases_lt a v) [
  | inl more ↦ inr (of_range (a + 1) n v (omega (arith, more)) (omega (arith, until)))
  | inr same ↦ inl (omega (arith, from, same))
]

module _ {X Y : Type 0} (f : X → Y) where
  -- what a map gives is f of an element
  pub in_map : (xs : List X) (y : Y) → Among (map f xs) y → (x : X) × Among xs x × (y ≡ f x)
  in_map [] y h = absurd h
  in_map (x ∷ xs) y (inl e) = (x, inl refl, e)
  in_map (x ∷ xs) y (inr h) = let r = in_map xs y h in (r.0, inr r.1, r.2)

  pub of_map : (xs : List X) (x : X) → Among xs x → Among (map f xs) (f x)
  of_map [] x h = absurd h
  of_map (z ∷ xs) x (inl e) = inl (rw e refl)
  of_map (z ∷ xs) x (inr h) = inr (of_map xs x h)

module _ {X : Type 0} where
  pub in_append : (xs ys : List X) (v : X) → Among (xs ++ ys) v → Among xs v ⊎ Among ys v
  in_append [] ys v h = inr h
  in_append (x ∷ xs) ys v (inl e) = inl (inl e)
  in_append (x ∷ xs) ys v (inr h) = elim (in_append xs ys v h) [
    | inl l ↦ inl (inr l)
    | inr r ↦ inr r
  ]

  pub of_left : (xs ys : List X) (v : X) → Among xs v → Among (xs ++ ys) v
  of_left [] ys v h = absurd h
  of_left (x ∷ xs) ys v (inl e) = inl e
  of_left (x ∷ xs) ys v (inr h) = inr (of_left xs ys v h)

  pub of_right : (xs ys : List X) (v : X) → Among ys v → Among (xs ++ ys) v
  of_right [] ys v h = h
  of_right (x ∷ xs) ys v h = inr (of_right xs ys v h)

module _ {X Y : Type 0} (f : X → List Y) where
  -- what a flat map gives is among what f gives of an element
  pub in_flat_map : (xs : List X) (y : Y) → Among (flat_map f xs) y → (x : X) × Among xs x × Among (f x) y
  in_flat_map [] y h = absurd h
  in_flat_map (x ∷ xs) y h = elim (in_append (f x) (flat_map f xs) y h) [
    | inl l ↦ (x, inl refl, l)
    | inr r ↦ let s = in_flat_map xs y r in (s.0, inr s.1, s.2)
  ]

  pub of_flat_map : (xs : List X) (x : X) (y : Y) → Among xs x → Among (f x) y → Among (flat_map f xs) y
  of_flat_map [] x y h g = absurd h
  of_flat_map (z ∷ xs) x y (inl e) g = of_left (f z) (flat_map f xs) y (rw e at g)
  of_flat_map (z ∷ xs) x y (inr h) g = of_right (f z) (flat_map f xs) y (of_flat_map xs x y h g)

-- Lists whose elements rise, and the numbers of their places.
use Rattle.std.proofs.Common.{◌≡◌, ◌∙◌, refl, sym, ap, subst, inl, inr, ℕ, zero, suc, ◌+◌, ◌-◌, ◌<◌, ◌≤◌, min, Bool, true, false, cond, nat_lt, List, []}
use Rattle.std.proofs.Common.{◌∷◌, ◌++◌, map, length}
use Rattle.std.proofs.Common.{Ordering, is_lt, le-ltb, lt-ltb, arith}
use Rattle.std.specs.List.{count_by, filter}
use Rattle.std.proofs.lemmas.Bool.{cases_Bool, cases_lt}
use Rattle.std.proofs.lemmas.List.Sums.{sum_by-cons}
use Rattle.dh_model.proofs.Among.{Among, in_append, in_filter, in_map}

-- in the order R
abbrev pub IsBefore : {X : Type 0} → (X → X → Ordering) → X → X → Type 0
IsBefore R x y = is_lt (R x y) ≡ true

module _ {X : Type 0} (Before : X → X → Type 0) where
  -- each element is before all later ones
  abbrev pub Rises : List X → Type 0
  Rises [] = Unit {0}
  Rises (x ∷ xs) = ((y : X) → Among xs y → Before x y) × Rises xs

  kept_rises : (p : X → Bool) (b : Bool) (x : X) (xs : List X) → ((y : X) → Among xs y → Before x y) → Rises (filter p xs)
      → Rises (cond b (x ∷ filter p xs) (filter p xs))
  kept_rises p true x xs before rest = (λ y h. before y (in_filter p xs y h).0, rest)
  kept_rises p false x xs before rest = rest

  -- and so do those that a filter keeps
  pub filter_rises : (p : X → Bool) (xs : List X) → Rises xs → Rises (filter p xs)
  filter_rises p [] r = tt
  filter_rises p (x ∷ xs) r = kept_rises p (p x) x xs r.0 (filter_rises p xs r.1)

  before_both : (x y : X) (xs ys : List X) → ((y : X) → Among xs y → Before x y) → ((y : X) → Among ys y → Before x y) → Among (xs ++ ys) y → Before x y
  before_both x y xs ys p q h = elim (in_append xs ys y h) [
    | inl l ↦ p y l
    | inr r ↦ q y r
  ]

  -- and two lists, one after the other, where those of the first are before those of the second
  pub append_rises : (xs ys : List X) → Rises xs → Rises ys → ((x y : X) → Among xs x → Among ys y → Before x y) → Rises (xs ++ ys)
  append_rises [] ys r s before = s
  append_rises (x ∷ xs) ys r s before = (
    λ y h. before_both x y xs ys r.0 (λ z g. before x z (inl refl) g) h,
    append_rises xs ys r.1 s (λ w z f g. before w z (inr f) g),
  )

-- what rises in one order rises in each weaker one
pub rises_by : {X : Type 0} (P Q : X → X → Type 0) → ((x y : X) → P x y → Q x y) → (xs : List X) → Rises P xs → Rises Q xs
rises_by P Q by [] r = tt
rises_by P Q by (x ∷ xs) r = (λ y a. by x y (r.0 y a), rises_by P Q by xs r.1)

-- and so where the order is weaker among these
pub rises_among : {X : Type 0} (P Q : X → X → Type 0) (xs : List X) → ((x y : X) → Among xs x → Among xs y → P x y → Q x y) → Rises P xs → Rises Q xs
rises_among P Q [] by r = tt
rises_among P Q (x ∷ xs) by r = (
  λ y a. by x y (inl refl) (inr a) (r.0 y a),
  rises_among P Q xs (λ y z a b. by y z (inr a) (inr b)) r.1,
)

-- and what a map that keeps the order makes of it rises
pub map_rises : {X Y : Type 0} (P : X → X → Type 0) (Q : Y → Y → Type 0) (f : X → Y) → ((x y : X) → P x y → Q (f x) (f y)) → (xs : List X) → Rises P xs
    → Rises Q (map f xs)
map_rises P Q f by [] r = tt
map_rises P Q f by (x ∷ xs) r = (
  λ y a. let of = in_map f xs y a in subst (Q (f x)) (sym of.2) (by x of.0 (r.0 of.0 of.1)),
  map_rises P Q f by xs r.1,
)

module _ {X : Type 0} (test : X → Bool) (x : X) (xs : List X) where
  count_yes : test x ≡ true → count_by test (x ∷ xs) ≡ 1 + count_by test xs
  count_yes e = sum_by-cons (λ y. cond (test y) 1 0) x xs ∙ ap (λ b. cond b 1 0 + count_by test xs) e

  count_no : test x ≡ false → count_by test (x ∷ xs) ≡ 0 + count_by test xs
  count_no e = sum_by-cons (λ y. cond (test y) 1 0) x xs ∙ ap (λ b. cond b 1 0 + count_by test xs) e

-- the elements have the numbers from a on, in their order
abbrev pub Numbered : {X : Type 0} → (X → ℕ) → ℕ → List X → Type 0
Numbered number a [] = Unit {0}
Numbered number a (x ∷ xs) = (number x ≡ a) × Numbered number (a + 1) xs

module _ {X : Type 0} (n : X → ℕ) where
  abbrev pub Lesser : X → X → Type 0
  Lesser x y = n x < n y

  -- how many elements have a lesser number
  abbrev pub place : List X → X → ℕ
  place xs x = count_by (λ y. nat_lt (n y) (n x)) xs

  no_lesser : (x : X) (xs : List X) → ((y : X) → Among xs y → n x < n y) → place xs x ≡ 0
  no_lesser x [] above = refl
  no_lesser x (y ∷ ys) above =
      let first : nat_lt (n y) (n x) ≡ false = let h : n x < n y = above y (inl refl) in le-ltb (n y) (n x) (omega (arith, h)) in
      let rest = no_lesser x ys (λ z h. above z (inr h)) in
      let counted = count_no (λ z. nat_lt (n z) (n x)) y ys first in
      omega (arith, counted, rest)

  place_of_first : (x : X) (xs : List X) → ((y : X) → Among xs y → n x < n y) → place (x ∷ xs) x ≡ 0
  place_of_first x xs above =
      let counted = count_no (λ z. nat_lt (n z) (n x)) x xs (le-ltb (n x) (n x) (omega arith)) in
      let none = no_lesser x xs above in
      omega (arith, counted, none)

  place_of_later : (x y : X) (xs : List X) → n x < n y → place (x ∷ xs) y ≡ 1 + place xs y
  place_of_later x y xs h = count_yes (λ z. nat_lt (n z) (n y)) x xs (lt-ltb (n x) (n y) h)

  numbered_from : (number : X → ℕ) (a : ℕ) (xs : List X) → Rises Lesser xs → ((x : X) → Among xs x → number x ≡ a + place xs x) → Numbered number a xs
  numbered_from number a [] r is = tt
  numbered_from number a (x ∷ xs) r is = (
    let first = place_of_first x xs r.0 in let own = is x (inl refl) in omega (arith, first, own),
    numbered_from number (a + 1) xs r.1 (λ y h. let later = place_of_later x y xs (r.0 y h) in let own = is y (inr h) in omega (arith, later, own)),
  )

  -- the places of elements that rise are 0, 1, 2 and so on
  pub places_are_numbered : (xs : List X) → Rises Lesser xs → Numbered (place xs) 0 xs
  places_are_numbered xs r = numbered_from (place xs) 0 xs r (λ x h. omega arith)

module _ {X : Type 0} (number : X → ℕ) where
  -- each number is below the length
  pub numbered_within : (a : ℕ) (xs : List X) (x : X) → Numbered number a xs → Among xs x → number x < a + length xs
  numbered_within a [] x is h = absurd h
  numbered_within a (y ∷ ys) x is (inl e) = let same = ap number e in omega (arith, same, is.0)
  numbered_within a (y ∷ ys) x is (inr h) = let rest = numbered_within (a + 1) ys x is.1 h in omega (arith, rest)

  -- and each number below the length is that of an element
  pub numbered_at : (a : ℕ) (xs : List X) (i : ℕ) → Numbered number a xs → i < length xs → (x : X) × Among xs x × (number x ≡ a + i)
  numbered_at a [] i is h = absurd (omega (arith, h))
  numbered_at a (x ∷ xs) zero is h = (x, inl refl, omega (arith, is.0))
  numbered_at a (x ∷ xs) (suc i) is h = let rest = numbered_at (a + 1) xs i is.1 (omega (arith, h)) in (rest.0, inr rest.1, omega (arith, rest.2))

  module _ (test : X → Bool) (most : ℕ) (passes : (x : X) → number x < most → test x ≡ true) (fails : (x : X) → most ≤ number x → test x ≡ false) where
    -- those of lesser number are all, or as many as there are numbers
    pub count_below : (a : ℕ) (xs : List X) → Numbered number a xs → count_by test xs ≡ min (length xs) (most - a)
    count_below a [] is = omega arith
    count_below a (x ∷ xs) is =
        let rest = count_below (a + 1) xs is.1 in
        elim (cases_lt (number x) most) [
          | inl below ↦ let counted = count_yes test x xs (passes x below) in omega (arith, counted, rest, below, is.0)
          | inr above ↦ let counted = count_no test x xs (fails x above) in omega (arith, counted, rest, above, is.0)
        ]

  module _ (test : X → Bool) (low size : ℕ) (ranges : (x : X) → test x ≡ true → (low ≤ number x) × (number x < low + size)) where
    left : (a : ℕ) (xs : List X) → Numbered number a xs → count_by test xs ≤ (low + size) - a
    left a [] is = omega arith
    left a (x ∷ xs) is =
        let rest = left (a + 1) xs is.1 in
        elim (cases_Bool (test x)) [
          | inl passes ↦ let counted = count_yes test x xs passes in let range = ranges x passes in omega (arith, counted, rest, range.1, is.0)
          | inr fails ↦ let counted = count_no test x xs fails in omega (arith, counted, rest)
        ]

    -- those whose number lies in a range are no more than its size
    pub no_more_than : (a : ℕ) (xs : List X) → Numbered number a xs → count_by test xs ≤ size
    no_more_than a [] is = omega arith
    no_more_than a (x ∷ xs) is = elim (cases_lt a low) [
      | inl early ↦
          let rest = no_more_than (a + 1) xs is.1 in
          let out : test x ≡ false = elim (cases_Bool (test x)) [
            | inl passes ↦ let range = ranges x passes in absurd (omega (arith, range.0, is.0, early))
            | inr fails ↦ fails
          ] in
          let counted = count_no test x xs out in
          omega (arith, counted, rest)
      | inr late ↦ let all = left a (x ∷ xs) is in omega (arith, all, late)
    ]

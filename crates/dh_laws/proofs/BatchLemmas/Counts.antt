-- Sums over lists in which nothing stands twice.
use Rattle.std.proofs.Common.{◌≡◌, ◌≢◌, ◌⊎◌, ◌∙◌, refl, sym, ap, subst, inl, inr, ℕ, ◌+◌, ◌<◌, ◌≤◌, List, [], ◌∷◌, ◌++◌, length, Ordering, is_lt, length-append}
use Rattle.std.proofs.Common.{arith}
use lib.ListN.{length-map}
use Rattle.std.specs.List.{flat_map, sum_by}
use Rattle.std.specs.Cmp.{IsTotalOrder}
use Rattle.std.specs.FinMap.{FinMap, IsAntisymmetric, entries, len, len-entries, values}
use Rattle.std.proofs.lemmas.Cmp.{tied_itself}
use Rattle.std.proofs.lemmas.List.Sums.{sum_by-cons}
use Rattle.dh_model.proofs.Among.{Among, in_flat_map}
use Rattle.dh_model.proofs.Rising.{IsBefore, Lesser, Rises, rises_by}
use Rattle.dh_laws.proofs.MapMerges.{rows_rise}
use Rattle.dh_model.specs.Books.{StandUnder}

module _ {X : Type 0} where
  abbrev pub Differ : X → X → Type 0
  Differ x y = x ≢ y

  pub lesser_differ : (n : X → ℕ) (xs : List X) → Rises (Lesser n) xs → Rises Differ xs
  lesser_differ n = rises_by (Lesser n) Differ (λ x y h e. let less : n x < n y = h in let same = ap n e in omega (arith, less, same))

  -- the list without the element, which stands in it
  record Without (f : X → ℕ) (xs : List X) (x : X) : Type 0 where
    rest : List X
    sum : sum_by f xs ≡ f x + sum_by f rest
    more : (y : X) → Among xs y → (y ≡ x) ⊎ Among rest y

  without_first : (f : X → ℕ) (z x : X) (xs : List X) → x ≡ z → Without f (z ∷ xs) x
  without_first f z x xs e = record {
    rest = xs;
    sum = sum_by-cons f z xs ∙ ap (λ y. f y + sum_by f xs) (sym e);
    more = λ y a. elim a [
      | inl s ↦ inl (s ∙ sym e)
      | inr b ↦ inr b
    ];
  }

  without_later : (f : X → ℕ) (z x : X) (xs : List X) → Without f xs x → Without f (z ∷ xs) x
  without_later f z x xs w = record {
    rest = z ∷ w.rest;
    sum =
        let all = sum_by-cons f z xs in
        let left = sum_by-cons f z w.rest in
        let own = w.sum in
        omega (arith, all, left, own);
    more = λ y a. elim a [
      | inl s ↦ inr (inl s)
      | inr b ↦ elim (w.more y b) [
        | inl s ↦ inl s
        | inr c ↦ inr (inr c)
      ]
    ];
  }

  without : (f : X → ℕ) (xs : List X) (x : X) → Among xs x → Without f xs x
  without f [] x a = absurd a
  without f (z ∷ xs) x (inl e) = without_first f z x xs e
  without f (z ∷ xs) x (inr a) = without_later f z x xs (without f xs x a)

  -- what all stands in another list sums up to no more than that
  pub no_more : (f : X → ℕ) (xs ys : List X) → Rises Differ xs → ((x : X) → Among xs x → Among ys x) → sum_by f xs ≤ sum_by f ys
  no_more f [] ys r in_ys = omega arith
  no_more f (x ∷ xs) ys r in_ys =
      let w = without f ys x (in_ys x (inl refl)) in
      let rest = no_more f xs w.rest r.1 (λ y a. elim (w.more y (in_ys y (inr a))) [
        | inl e ↦ absurd (r.0 y a (sym e))
        | inr b ↦ b
      ]) in
      let all = sum_by-cons f x xs in
      let own = w.sum in
      omega (arith, rest, all, own)

  -- and lists of the same elements to the same
  pub same_sum : (f : X → ℕ) (xs ys : List X) → Rises Differ xs → Rises Differ ys → ((x : X) → Among xs x → Among ys x) → ((x : X) → Among ys x → Among xs x)
      → sum_by f xs ≡ sum_by f ys
  same_sum f xs ys r s to from =
      let less = no_more f xs ys r to in
      let more = no_more f ys xs s from in
      omega (arith, less, more)

  pub counted : (xs : List X) → length xs ≡ sum_by (λ x. 1) xs
  counted [] = refl
  counted (x ∷ xs) =
      let rest = counted xs in
      let all = sum_by-cons (λ (y : X). 1) x xs in
      omega (arith, rest, all)

  pub no_longer : (xs ys : List X) → Rises Differ xs → ((x : X) → Among xs x → Among ys x) → length xs ≤ length ys
  no_longer xs ys r in_ys =
      let less = no_more (λ x. 1) xs ys r in_ys in
      let one = counted xs in
      let other = counted ys in
      omega (arith, less, one, other)

  pub same_length : (xs ys : List X) → Rises Differ xs → Rises Differ ys → ((x : X) → Among xs x → Among ys x) → ((x : X) → Among ys x → Among xs x)
      → length xs ≡ length ys
  same_length xs ys r s to from =
      let less = no_longer xs ys r to in
      let more = no_longer ys xs s from in
      omega (arith, less, more)

  no_element : (xs : List X) → ((x : X) → Among xs x → ⊥) → length xs ≡ 0
  no_element [] none = refl
  no_element (x ∷ xs) none = absurd (none x (inl refl))

-- where one key at most has elements, and none more than the size, there are no more in all
module _ {K X : Type 0} (f : K → List X) (size : ℕ) (small : (k : K) → length (f k) ≤ size) where
  abbrev pub OneHolds : List K → Type 0
  OneHolds ks = (a b : K) (x y : X) → Among ks a → Among ks b → Among (f a) x → Among (f b) y → a ≡ b

  by_first : (first : List X) (k : K) (ks : List K) → first ≡ f k → Rises Differ (k ∷ ks) → OneHolds (k ∷ ks) → length first ≤ size
      → length (flat_map f ks) ≤ size
      → length (first ++ flat_map f ks) ≤ size
  by_first [] k ks e r one few rest = rest
  by_first (x ∷ xs) k ks e r one few rest =
      let none = no_element (flat_map f ks) (λ y a.
      let of = in_flat_map f ks y a in
      r.0 of.0 of.1 (one k of.0 x y (inl refl) (inr of.1) (subst (λ l. Among l x) e (inl refl)) of.2)) in
      let all = length-append (x ∷ xs) (flat_map f ks) in
      omega (arith, none, all, few)

  pub at_most_one : (ks : List K) → Rises Differ ks → OneHolds ks → length (flat_map f ks) ≤ size
  at_most_one [] r one = omega arith
  at_most_one (k ∷ ks) r one = by_first (f k) k ks refl r one (small k) (at_most_one ks r.1 (λ a b x y p q. one a b x y (inr p) (inr q)))

module _ {K X : Type 0} {R : K → K → Ordering} (o : IsTotalOrder R) (anti : IsAntisymmetric R) where
  pub rows_differ : (key : X → K) (m : FinMap R X) → StandUnder key m → Rises Differ (values m)
  rows_differ key m keyed =
      rises_by (λ x y. IsBefore R (key x) (key y)) Differ
      (λ x y before same.
      let itself : IsBefore R (key x) (key x) = subst (λ k. IsBefore R (key x) k) (sym (ap key same)) before in
      let never = ap is_lt (tied_itself o (key x)) in
      cc)
      (values m) (rows_rise o anti key m keyed)

  pub rows_counted : (m : FinMap R X) → len m ≡ length (values m)
  rows_counted m = len-entries m ∙ sym (length-map (entries m) (λ e. e.1))

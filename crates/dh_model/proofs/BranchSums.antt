-- Sums over keys in their order.
use Rattle.std.proofs.Common.{◌≡◌, ◌∙◌, refl, sym, ap, inl, inr, ℕ, ◌+◌, ◌-◌, ◌<◌, ◌≤◌, min, Bool, true, false, cond, nat_lt, List, [], ◌∷◌, Ordering}
use Rattle.std.proofs.Common.{is_lt, le-ltb, lt-ltb, arith}
use Rattle.std.specs.List.{filter, sum_by}
use Rattle.std.specs.Ordering.{ordering_reverse}
use Rattle.std.specs.Cmp.{IsTotalOrder}
use Rattle.std.proofs.lemmas.Cmp.{tied_itself}
use Rattle.std.proofs.lemmas.Bool.{cases_Bool, cases_lt}
use Rattle.std.proofs.lemmas.List.Sums.{sum_by-cons}
use Rattle.dh_model.proofs.Among.{Among}
use Rattle.dh_model.proofs.Rising.{IsBefore, Rises}
use Rattle.dh_model.proofs.MapRows.{is_less}

module _ {K : Type 0} (R : K → K → Ordering) (o : IsTotalOrder R) where
  pub not_back : (x y : K) → IsBefore R x y → is_lt (R y x) ≡ false
  not_back x y h = ap is_lt (o.antisymm y x ∙ ap ordering_reverse (is_less (R x y) h))

module _ {K : Type 0} (f : K → ℕ) where
  sum_if : (b : Bool) (x : K) (xs : List K) → sum_by f (cond b (x ∷ xs) xs) ≡ cond b (f x) 0 + sum_by f xs
  sum_if true x xs = sum_by-cons f x xs
  sum_if false x xs = omega arith

  module _ (p : K → Bool) where
    sum_kept : (x : K) (xs : List K) → p x ≡ true → sum_by f (filter p (x ∷ xs)) ≡ f x + sum_by f (filter p xs)
    sum_kept x xs e = sum_if (p x) x (filter p xs) ∙ ap (λ b. cond b (f x) 0 + sum_by f (filter p xs)) e

    sum_left_out : (x : K) (xs : List K) → p x ≡ false → sum_by f (filter p (x ∷ xs)) ≡ 0 + sum_by f (filter p xs)
    sum_left_out x xs e = sum_if (p x) x (filter p xs) ∙ ap (λ b. cond b (f x) 0 + sum_by f (filter p xs)) e

    sum_of_some : (xs : List K) → sum_by f (filter p xs) ≤ sum_by f xs
    sum_of_some [] = omega arith
    sum_of_some (x ∷ xs) =
        let rest = sum_of_some xs in
        let all = sum_by-cons f x xs in
        elim (cases_Bool (p x)) [
          | inl passes ↦ let kept = sum_kept x xs passes in omega (arith, rest, all, kept)
          | inr fails ↦ let out = sum_left_out x xs fails in omega (arith, rest, all, out)
        ]

    sum_of_none : (xs : List K) → ((x : K) → Among xs x → p x ≡ false) → sum_by f (filter p xs) ≡ 0
    sum_of_none [] none = refl
    sum_of_none (x ∷ xs) none =
        let rest = sum_of_none xs (λ y h. none y (inr h)) in
        let out = sum_left_out x xs (none x (inl refl)) in
        omega (arith, rest, out)

  -- before each key of the list are a and what the keys in front of it have
  abbrev pub Follows : (K → ℕ) → ℕ → List K → Type 0
  Follows before a [] = Unit {0}
  Follows before a (k ∷ ks) = (before k ≡ a) × Follows before (a + f k) ks

  follows_alike : (g h : K → ℕ) (a : ℕ) (ks : List K) → ((k : K) → Among ks k → g k ≡ h k) → Follows g a ks → Follows h a ks
  follows_alike g h a [] same is = tt
  follows_alike g h a (k ∷ ks) same is = (sym (same k (inl refl)) ∙ is.0, follows_alike g h (a + f k) ks (λ x i. same x (inr i)) is.1)

  module _ (R : K → K → Ordering) (o : IsTotalOrder R) where
    -- the sum over the lesser keys
    abbrev pub sum_before : List K → K → ℕ
    sum_before ks k = sum_by f (filter (λ other. is_lt (R other k)) ks)

    not_before_itself : (k : K) → is_lt (R k k) ≡ false
    not_before_itself k = ap is_lt (tied_itself o k)

    -- with a key's own these are among all
    pub own_is_among_all : (ks : List K) (k : K) → Among ks k → sum_before ks k + f k ≤ sum_by f ks
    own_is_among_all [] k h = absurd h
    own_is_among_all (x ∷ xs) k (inl e) =
        let out = sum_left_out (λ other. is_lt (R other k)) x xs (rw e (not_before_itself x)) in
        let some = sum_of_some (λ other. is_lt (R other k)) xs in
        let all = sum_by-cons f x xs in
        let same = ap f e in
        omega (arith, out, some, all, same)
    own_is_among_all (x ∷ xs) k (inr h) =
        let rest = own_is_among_all xs k h in
        let all = sum_by-cons f x xs in
        elim (cases_Bool (is_lt (R x k))) [
          | inl passes ↦ let kept = sum_kept (λ other. is_lt (R other k)) x xs passes in omega (arith, rest, all, kept)
          | inr fails ↦ let out = sum_left_out (λ other. is_lt (R other k)) x xs fails in omega (arith, rest, all, out)
        ]

    -- the key that a number below the sum belongs to
    pub record Holds (ks : List K) (j : ℕ) : Type 0 where
      pub key : K
      pub of : Among ks key
      pub from : sum_before ks key ≤ j
      pub until : j < sum_before ks key + f key

    held_by_first : (k : K) (ks : List K) (j : ℕ) → Rises (IsBefore R) (k ∷ ks) → j < f k → Holds (k ∷ ks) j
    held_by_first k ks j r h =
        let out = sum_left_out (λ other. is_lt (R other k)) k ks (not_before_itself k) in
        let none = sum_of_none (λ other. is_lt (R other k)) ks (λ y g. not_back R o k y (r.0 y g)) in
        record { key = k; of = inl refl; from = omega (arith, out, none); until = omega (arith, h, out, none) }

    held_later : (k : K) (ks : List K) (j : ℕ) → Rises (IsBefore R) (k ∷ ks) → f k ≤ j → Holds ks (j - f k) → Holds (k ∷ ks) j
    held_later k ks j r h rest =
        let kept = sum_kept (λ other. is_lt (R other rest.key)) k ks (r.0 rest.key rest.of) in
        record { key = rest.key; of = inr rest.of; from = omega (arith, h, kept, rest.from); until = omega (arith, h, kept, rest.until) }

    pub holder : (ks : List K) (j : ℕ) → Rises (IsBefore R) ks → j < sum_by f ks → Holds ks j
    holder [] j r h = absurd (omega (arith, h))
    holder (k ∷ ks) j r h = elim (cases_lt j (f k)) [
      | inl first ↦ held_by_first k ks j r first
      | inr later ↦ let all = sum_by-cons f k ks in held_later k ks j r later (holder ks (j - f k) r.1 (omega (arith, h, all, later)))
    ]

    follows_from : (a : ℕ) (ks : List K) → Rises (IsBefore R) ks → Follows (λ k. a + sum_before ks k) a ks
    follows_from a [] r = tt
    follows_from a (k ∷ ks) r =
        let out = sum_left_out (λ other. is_lt (R other k)) k ks (not_before_itself k) in
        let none = sum_of_none (λ other. is_lt (R other k)) ks (λ y h. not_back R o k y (r.0 y h)) in (
          omega (arith, out, none),
          follows_alike (λ x. (a + f k) + sum_before ks x) (λ x. a + sum_before (k ∷ ks) x) (a + f k) ks
              (λ x h. let kept = sum_kept (λ other. is_lt (R other x)) k ks (r.0 x h) in omega (arith, kept))
              (follows_from (a + f k) ks r.1),
        )

    -- over keys that rise these are the sums over the lesser keys
    pub sums_follow : (ks : List K) → Rises (IsBefore R) ks → Follows (sum_before ks) 0 ks
    sums_follow ks r = follows_alike (λ k. 0 + sum_before ks k) (sum_before ks) 0 ks (λ k h. omega arith) (follows_from 0 ks r)

-- where each key takes its own, or what those before it leave of n, all together take n
module _ {K : Type 0} (f before taken : K → ℕ) (n : ℕ) (each : (k : K) → before k < n → taken k ≡ min (f k) (n - before k)) where
  pub taken_in_all : (a : ℕ) (ks : List K) → Follows f before a ks → n ≤ a + sum_by f ks → sum_by taken (filter (λ k. nat_lt (before k) n) ks) ≡ n - a
  taken_in_all a [] is h = omega (arith, h)
  taken_in_all a (k ∷ ks) is h =
      let all = sum_by-cons f k ks in
      let rest = taken_in_all (a + f k) ks is.1 (omega (arith, h, all)) in
      elim (cases_lt (before k) n) [
        | inl begun ↦
            let kept = sum_kept taken (λ k. nat_lt (before k) n) k ks (lt-ltb (before k) n begun) in
            let own = each k begun in
            omega (arith, rest, kept, own, is.0)
        | inr later ↦
            let out = sum_left_out taken (λ k. nat_lt (before k) n) k ks (le-ltb (before k) n later) in
            omega (arith, rest, out, later, is.0)
      ]

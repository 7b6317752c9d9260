-- Sums over what a filter keeps of a map's rows, after new ones.
use Rattle.std.proofs.Common.{◌≡◌, ◌≢◌, ◌∙◌, refl, sym, ap, inl, inr, ℕ, ◌+◌, Bool, true, false, cond, List, [], ◌∷◌, None, Ordering, arith}
use Rattle.std.specs.List.{filter, sum_by}
use Rattle.std.specs.Cmp.{IsTotalOrder}
use Rattle.std.specs.FinMap.{FinMap, IsAntisymmetric, entries, get, get-entries, get-from_entries, insert, same_map, values}
use Rattle.std.proofs.lemmas.List.Sums.{sum_by-cons}
use Rattle.dh_model.specs.Books.{with_rows}
use Rattle.dh_model.proofs.Among.{Among}
use Rattle.dh_model.proofs.Rising.{Rises}
use Rattle.dh_laws.proofs.MapMerges.{get_past_rows}
use Rattle.dh_model.proofs.MapRows.{sum_new}

module _ {X : Type 0} (f : X → ℕ) where
  sum_if : (b : Bool) (x : X) (xs : List X) → sum_by f (cond b (x ∷ xs) xs) ≡ cond b (f x) 0 + sum_by f xs
  sum_if true x xs = sum_by-cons f x xs
  sum_if false x xs = omega arith

  -- the sum over those that pass is that of what each adds
  sum_kept : (p : X → Bool) (xs : List X) → sum_by f (filter p xs) ≡ sum_by (λ x. cond (p x) (f x) 0) xs
  sum_kept p [] = refl
  sum_kept p (x ∷ xs) = sum_if (p x) x (filter p xs) ∙ ap (λ n. cond (p x) (f x) 0 + n) (sum_kept p xs) ∙ sym (sum_by-cons (λ y. cond (p y) (f y) 0) x xs)

module _ {K X : Type 0} {R : K → K → Ordering} (o : IsTotalOrder R) (anti : IsAntisymmetric R) where
  -- a row under a new key adds its own, if it passes
  pub kept_new : (f : X → ℕ) (p : X → Bool) (m : FinMap R X) (k : K) (v : X) → get m k ≡ None
      → sum_by f (filter p (values (insert m k v))) ≡ sum_by f (filter p (values m)) + cond (p v) (f v) 0
  kept_new f p m k v none =
      let after = sum_kept f p (values (insert m k v)) in
      let before = sum_kept f p (values m) in
      let new = sum_new o anti (λ x. cond (p x) (f x) 0) m k v none in
      omega (arith, after, before, new)

  -- the same by two tests
  pub kept_twice_new : (f : X → ℕ) (p q : X → Bool) (m : FinMap R X) (k : K) (v : X) → get m k ≡ None
      → sum_by f (filter q (filter p (values (insert m k v)))) ≡ sum_by f (filter q (filter p (values m))) + cond (p v) (cond (q v) (f v) 0) 0
  kept_twice_new f p q m k v none =
      let after = sum_kept f q (filter p (values (insert m k v))) in
      let before = sum_kept f q (filter p (values m)) in
      let new = kept_new (λ x. cond (q x) (f x) 0) p m k v none in
      omega (arith, after, before, new)

  module _ (key : X → K) where
    as_it_is : (m : FinMap R X) → with_rows key [] m ≡ m
    as_it_is m = same_map o anti (with_rows key [] m) m (λ q. get-from_entries o (entries m) q ∙ sym (get-entries m q))

    -- by other keys
    abbrev pub Apart : X → X → Type 0
    Apart x y = key x ≢ key y

    -- rows under new keys, each its own, add theirs
    sum_added : (f : X → ℕ) (rows : List X) (m : FinMap R X) → Rises Apart rows → ((x : X) → Among rows x → get m (key x) ≡ None)
        → sum_by f (values (with_rows key rows m)) ≡ sum_by f (values m) + sum_by f rows
    sum_added f [] m apart none = let same = ap (λ n. sum_by f (values n)) (as_it_is m) in omega (arith, same)
    sum_added f (x ∷ rows) m apart none =
        let first = sum_new o anti f (with_rows key rows m) (key x) x (get_past_rows o anti key rows m (key x) (λ y a e. apart.0 y a (sym e))
        ∙ none x (inl refl)) in
        let rest = sum_added f rows m apart.1 (λ y a. none y (inr a)) in
        let all = sum_by-cons f x rows in
        omega (arith, first, rest, all)

    pub kept_added : (f : X → ℕ) (p : X → Bool) (rows : List X) (m : FinMap R X) → Rises Apart rows → ((x : X) → Among rows x → get m (key x) ≡ None)
        → sum_by f (filter p (values (with_rows key rows m))) ≡ sum_by f (filter p (values m)) + sum_by f (filter p rows)
    kept_added f p rows m apart none =
        let after = sum_kept f p (values (with_rows key rows m)) in
        let before = sum_kept f p (values m) in
        let own = sum_kept f p rows in
        let added = sum_added (λ x. cond (p x) (f x) 0) rows m apart none in
        omega (arith, after, before, own, added)

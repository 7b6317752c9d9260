-- What a loop over leases has found so far, and what is left.
use Rattle.std.proofs.Common.{◌≡◌, ◌∙◌, sym, ap, Bool, true, false, cond, ◌&&◌, List, [], ◌∷◌, ◌++◌, map, append_assoc}
use Rattle.std.specs.List.{filter}

module _ {X Y : Type 0} (p q : X → Bool) (f : X → Y) where
  by_both : (x : X) (xs : List X) (t b : Bool) → (t && p x) ≡ b
      → filter p (cond t (x ∷ filter q xs) (filter q xs)) ≡ cond b (x ∷ filter p (filter q xs)) (filter p (filter q xs))
  by_both x xs true b is = ap (λ s. cond s (x ∷ filter p (filter q xs)) (filter p (filter q xs))) is
  by_both x xs false b is = ap (λ s. cond s (x ∷ filter p (filter q xs)) (filter p (filter q xs))) is

  left : (x : X) (xs ys : List X) (b : Bool) → xs ≡ x ∷ ys → (q x && p x) ≡ b
      → map f (filter p (filter q xs)) ≡ map f (cond b (x ∷ filter p (filter q ys)) (filter p (filter q ys)))
  left x xs ys b front is = ap (λ zs. map f (filter p (filter q zs))) front ∙ ap (map f) (by_both x ys (q x) b is)

  -- none was looked at
  pub none_yet : (xs ys : List X) (found : List Y) → found ≡ [] → xs ≡ ys → found ++ map f (filter p (filter q xs)) ≡ map f (filter p (filter q ys))
  none_yet xs ys found empty all = ap (λ zs. zs ++ map f (filter p (filter q xs))) empty ∙ ap (λ zs. map f (filter p (filter q zs))) all

  -- the first of what is left passes both, and was added
  pub one_more : (x : X) (xs ys : List X) (found next all : List Y) (y : Y) → xs ≡ x ∷ ys → (q x && p x) ≡ true → next ≡ found ++ y ∷ [] → y ≡ f x
      → found ++ map f (filter p (filter q xs)) ≡ all → next ++ map f (filter p (filter q ys)) ≡ all
  one_more x xs ys found next all y front is added same so_far =
      ap (λ zs. zs ++ map f (filter p (filter q ys))) (added ∙ ap (λ z. found ++ z ∷ []) same) ∙ append_assoc found (f x ∷ []) (map f (filter p (filter q ys)))
      ∙ sym (ap (λ zs. found ++ zs) (left x xs ys true front is)) ∙ so_far

  -- it fails one
  pub none_more : (x : X) (xs ys : List X) (found all : List Y) → xs ≡ x ∷ ys → (q x && p x) ≡ false → found ++ map f (filter p (filter q xs)) ≡ all → found
      ++ map f (filter p (filter q ys)) ≡ all
  none_more x xs ys found all front is so_far = sym (ap (λ zs. found ++ zs) (left x xs ys false front is)) ∙ so_far

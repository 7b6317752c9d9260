-- Facts of each element of a list.
use Rattle.std.proofs.Common.{◌≡◌, ◌∙◌, inl, inr, refl, sym, ap, subst, arith, ℕ, zero, suc, Bool, true, false, true≢false}
use Rattle.std.proofs.Common.{List, [], ◌∷◌, length, map, All, Some}
use Rattle.std.specs.List.{AllByRecursion, IsDistinct, slice_get}
use Rattle.sqlite_rules.specs.Lists.{Has}
use Rattle.dh_model.proofs.Among.{Among}

pub all_from_has : {X : Type 0} (P : X → Type 0) (xs : List X) → ((x : X) → Has xs x → P x) → AllByRecursion P xs
all_from_has P [] h = tt
all_from_has P (x ∷ xs) h = (h x (inl refl), all_from_has P xs (λ y there. h y (inr there)))

pub has_all : {X : Type 0} (P : X → Type 0) (xs : List X) (x : X) → AllByRecursion P xs → Has xs x → P x
has_all P [] x h there = absurd there
has_all P (y ∷ xs) x h (inl e) = subst P (sym e) h.0
has_all P (y ∷ xs) x h (inr there) = has_all P xs x h.1 there

pub has_among : {X : Type 0} (xs : List X) (x : X) → Among xs x → Has xs x
has_among [] x h = absurd h
has_among (y ∷ xs) x (inl e) = inl e
has_among (y ∷ xs) x (inr h) = inr (has_among xs x h)

pub all_of : {X : Type 0} (P Q : X → Type 0) → ((x : X) → P x → Q x) → (xs : List X) → AllByRecursion P xs → AllByRecursion Q xs
all_of P Q h [] a = tt
all_of P Q h (x ∷ xs) a = (h x a.0, all_of P Q h xs a.1)

pub map_same : {X Y : Type 0} (f g : X → Y) → ((x : X) → f x ≡ g x) → (xs : List X) → map f xs ≡ map g xs
map_same f g same [] = refl
map_same f g same (x ∷ xs) = λ i. same x i ∷ map_same f g same xs i

-- the element at a place
pub all_at : {X : Type 0} (P : X → Type 0) (xs : List X) (at : ℕ) (x : X) → AllByRecursion P xs → slice_get xs at ≡ Some x → P x
all_at P [] zero x all h = cc
all_at P [] (suc at) x all h = cc
all_at P (y ∷ xs) zero x all h = subst P (let e : y ≡ x = cc in e) all.0
all_at P (y ∷ xs) (suc at) x all h = all_at P xs at x all.1 h

-- ---- keys of which none is there twice

module _ {X K : Type 0} (e : K → K → Bool) (itself : (k : K) → e k k ≡ true) (key : X → K) where
  pub none_with : (k : K) (xs : List X) (y : X) → AllByRecursion (λ j. e k j ≡ false) (map key xs) → Has xs y → e k (key y) ≡ false
  none_with k [] y all there = absurd there
  none_with k (x ∷ xs) y all (inl is) = ap (λ z. e k (key z)) is ∙ all.0
  none_with k (x ∷ xs) y all (inr there) = none_with k xs y all.1 there

  apart : (k : K) (xs : List X) (y : X) → AllByRecursion (λ j. e k j ≡ false) (map key xs) → Has xs y → k ≡ key y → ⊥
  apart k xs y all there same = true≢false (sym (sym (ap (e k) same) ∙ itself k) ∙ none_with k xs y all there)

  -- each is of one element
  pub one_of_key : (xs : List X) → IsDistinct e (map key xs) → (x y : X) → Has xs x → Has xs y → key x ≡ key y → x ≡ y
  unfolding IsDistinct
  one_of_key [] d x y hx hy same = absurd hx
  one_of_key (z ∷ xs) d x y (inl p) (inl q) same = p ∙ sym q
  one_of_key (z ∷ xs) d x y (inl p) (inr hy) same = absurd (apart (key z) xs y d.0 hy (sym (ap key p) ∙ same))
  one_of_key (z ∷ xs) d x y (inr hx) (inl q) same = absurd (apart (key z) xs x d.0 hx (sym (ap key q) ∙ sym same))
  one_of_key (z ∷ xs) d x y (inr hx) (inr hy) same = one_of_key xs d.1 x y hx hy same

-- what holds of each list of ten holds of a list with that length
pub of_ten : {X : Type 0} (P : List X → Type 0)
    → ((a b c d e f g h i j : X) → P (a ∷ b ∷ c ∷ d ∷ e ∷ f ∷ g ∷ h ∷ i ∷ j ∷ [])) → (xs : List X) → length xs ≡ 10 → P xs
of_ten P each (a ∷ b ∷ c ∷ d ∷ e ∷ f ∷ g ∷ h ∷ i ∷ j ∷ []) is = each a b c d e f g h i j
of_ten P each (a ∷ b ∷ c ∷ d ∷ e ∷ f ∷ g ∷ h ∷ i ∷ j ∷ k ∷ xs) is = absurd (omega (arith, is))
of_ten P each xs is = absurd (omega (arith, is))

-- what holds at each place holds of each element
pub all_by_recursion : {X : Type 0} (P : X → Type 0) (xs : List X) → All P xs → AllByRecursion P xs
all_by_recursion P [] h = tt
all_by_recursion P (x ∷ xs) h = (h 0 x (omega arith), all_by_recursion P xs (λ k d low. h (suc k) d (omega (arith, low))))

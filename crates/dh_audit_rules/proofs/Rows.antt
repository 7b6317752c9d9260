-- What a test of all rows says of each row.
use Rattle.std.proofs.Common.{◌≡◌, ◌↔◌, ◌∙◌, refl, sym, ap, subst, inl, inr, ℕ, zero, suc, ◌<◌, Bool, true, false, List, [], ◌∷◌, ◌++◌}
use Rattle.std.proofs.Common.{map, append_assoc, length}
use Rattle.std.proofs.Common.{slice_index_or, arith}
use Rattle.std.specs.Bool.{MatchBool}
use Rattle.std.specs.Fn.{Called}
use Rattle.std.specs.Iterator.{YieldsThen}
use Rattle.std.specs.List.{AllWithin, FoldsTo, HoldsAt, IsAmong}
use Rattle.std.specs.Option.{MatchOption}
use Rattle.std.proofs.lemmas.Bool.{false≢true}
use Rattle.std.proofs.lemmas.Iterator.{cases_from_all}
use Rattle.std.proofs.lemmas.Iterator.Consumers.{YieldsList-from_rest}
use Rattle.std.specs.Map.Iter.{TakesFirst}
use denote.Param.Members.{Mut}
use Rattle.std.specs.Prelude.{Option}
use Rattle.dh_model.proofs.Among.{Among, in_append, of_right}

module _ {X : Type 0} where
  -- the element at an index
  pub element : (xs : List X) (i : ℕ) → i < length xs → (x : X) × (x ≡ slice_index_or xs i x)
  element [] i h = absurd (omega (arith, h))
  element (x ∷ xs) zero h = (x, refl)
  element (x ∷ xs) (suc i) h = element xs i (omega (arith, h))

  module _ (P : X → Type 0) (xs : List X) where
    each_from_cases : (r : Bool) → MatchBool r (AllWithin P xs 0 (length xs)) ((k : ℕ) × (k < length xs) × HoldsAt (λ x. P x → ⊥) xs k) → (r ≡ true)
        ↔ ((x : X) → IsAmong xs x → P x)
    each_from_cases true h = (λ _ x is. subst P (sym is.1.1) (h is.0 x (omega arith) is.1.0), λ _. refl)
    each_from_cases false h =
        (λ e. absurd (false≢true e), λ each. let it = element xs h.0 h.1 in absurd (h.2 it.0 (subst P it.1 (each it.0 (h.0, (h.1, it.1))))))

module _ {A X F : Type 0} {shows : A → X} {g : Mut F (A × Unit {0}) Bool} {s xs : List X} {P : X → Type 0} {u : List X} {f : F} {r : Bool} where
  -- a chain's test of all rows of a map, by what the closure says of one
  pub each_row : (ys : List A) × (o : Option A) × (j : F) × YieldsThen (TakesFirst shows) s ys o u × FoldsTo (λ p x q. Called g p (x, tt) true q) f ys j
      × MatchOption o (r ≡ true) (λ x. (r ≡ false) × ((h : F) × Called g j (x, tt) false h))
      → s ≡ xs
      → ((x : A) (b : Bool) (q : F) → Called g f (x, tt) b q → (q ≡ f) × ((b ≡ true) ↔ P (shows x)))
      → (r ≡ true) ↔ ((x : X) → IsAmong xs x → P x)
  each_row ran is tells =
      each_from_cases P xs r
      (cases_from_all u f r P (λ x. P x → ⊥) ran (YieldsList-from_rest xs is)
      (λ x q called. let t = tells x true q called in (t.0, t.1.0 refl))
      (λ x q called p. false≢true ((tells x false q called).1.1 p)))

-- an answer on all rows, in other words on each
pub each_as : {X : Type 0} {P Q : X → Type 0} {r : Bool} (xs : List X) → ((x : X) → P x ↔ Q x) → ((r ≡ true) ↔ ((x : X) → IsAmong xs x → P x)) → (r ≡ true)
    ↔ ((x : X) → IsAmong xs x → Q x)
each_as xs same tells = (λ yes x a. (same x).0 (tells.0 yes x a), λ all. tells.1 (λ x a. (same x).1 (all x a)))

-- of two answers by which a third is known, the first is yes, and the second is given
module _ {A B C : Type 0} {a b : Bool} where
  pub passes : (C → A × B) → (A → B → C) → ((a ≡ true) ↔ A) → ((b ≡ true) ↔ B) → a ≡ true → (b ≡ true) ↔ C
  passes parts made first second is = (λ also. made (first.0 is) (second.0 also), λ all. second.1 (parts all).1)

-- and the first is no
pub fails : {A C : Type 0} {a : Bool} → (C → A) → ((a ≡ true) ↔ A) → a ≡ false → (a ≡ true) ↔ C
fails part first is = (λ yes. absurd (false≢true (sym is ∙ yes)), λ all. first.1 (part all))

-- the first of what is left, put at the end of what was made
pub one_pushed : {X Y : Type 0} (f : X → Y) (x : X) (xs ys : List X) (made next all : List Y) (y : Y) → xs ≡ x ∷ ys → next ≡ made ++ y ∷ [] → y ≡ f x → made
    ++ map f xs ≡ all → next ++ map f ys ≡ all
one_pushed f x xs ys made next all y front added same so_far =
    ap (λ zs. zs ++ map f ys) (added ∙ ap (λ z. made ++ z ∷ []) same) ∙ append_assoc made (f x ∷ []) (map f ys)
    ∙ sym (ap (λ zs. made ++ map f zs) front) ∙ so_far

-- the row that a loop over all rows comes to
pub among_rest : {X : Type 0} (xs done rest later : List X) (x : X) → xs ≡ done ++ rest → rest ≡ x ∷ later → Among xs x
among_rest xs done rest later x all front = subst (λ ys. Among ys x) (sym (all ∙ ap (λ ys. done ++ ys) front)) (of_right done (x ∷ later) x (inl refl))

-- what holds of all so far and of the next one
pub each_more : {X : Type 0} (P : X → Type 0) (before : List X) (x : X) → ((y : X) → Among before y → P y) → P x → (y : X) → Among (before ++ x ∷ []) y → P y
each_more P before x had own y a = elim (in_append before (x ∷ []) y a) [
  | inl earlier ↦ had y earlier
  | inr here ↦ elim here [
    | inl is ↦ subst P (sym is) own
    | inr none ↦ absurd none
  ]
]

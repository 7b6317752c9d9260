-- The run that books show as open.
use Rattle.std.proofs.Common.{◌≡◌, ◌∙◌, refl, sym, ap, inl, inr, Bool, true, false, cond, not, List, [], ◌∷◌, ◌++◌, Some, None}
use Rattle.std.specs.List.{find}
use Rattle.std.specs.FinMap.{values}
use Rattle.dh_types.specs.declared.run.Run.{Run}
use Rattle.dh_model.specs.Books.{Books}
use Rattle.dh_model.specs.Whole.{open_row}
use Rattle.dh_model.proofs.Among.{Among}

module _ {X : Type 0} (p : X → Bool) where
  found_first : (b : Bool) (x y : X) (xs : List X) → p x ≡ b → cond b (Some x) (find p xs) ≡ Some y → (find p xs ≡ Some y → Among xs y × (p y ≡ true))
      → Among (x ∷ xs) y × (p y ≡ true)
  found_first true x y xs t e rest = let same : x ≡ y = (cc) in (inl (sym same), ap p (sym same) ∙ t)
  found_first false x y xs t e rest = let r = rest e in (inr r.0, r.1)

  -- what is found is there, and passes
  pub found : (xs : List X) (y : X) → find p xs ≡ Some y → Among xs y × (p y ≡ true)
  found [] y e = cc
  found (x ∷ xs) y e = found_first (p x) x y xs refl e (found xs y)

  missed_first : (b : Bool) (x y : X) (xs : List X) → p x ≡ b → cond b (Some x) (find p xs) ≡ None → (find p xs ≡ None → Among xs y → p y ≡ false)
      → Among (x ∷ xs) y → p y ≡ false
  missed_first true x y xs t e rest a = cc
  missed_first false x y xs t e rest (inl s) = ap p s ∙ t
  missed_first false x y xs t e rest (inr a) = rest e a

  -- where none is found, none passes
  pub missed : (xs : List X) (y : X) → find p xs ≡ None → Among xs y → p y ≡ false
  missed [] y e a = absurd a
  missed (x ∷ xs) y e a = missed_first (p x) x y xs refl e (missed xs y) a

  -- where none passes, none is found
  pub none_found : (xs : List X) → ((y : X) → Among xs y → p y ≡ false) → find p xs ≡ None
  none_found [] never = refl
  none_found (x ∷ xs) never = ap (λ b. cond b (Some x) (find p xs)) (never x (inl refl)) ∙ none_found xs (λ y a. never y (inr a))

  -- the first that passes is found
  pub found_after : (before after : List X) (x : X) → ((y : X) → Among before y → p y ≡ false) → p x ≡ true → find p (before ++ x ∷ after) ≡ Some x
  found_after [] after x never t = ap (λ b. cond b (Some x) (find p after)) t
  found_after (y ∷ before) after x never t =
      ap (λ b. cond b (Some y) (find p (before ++ x ∷ after))) (never y (inl refl)) ∙ found_after before after x (λ z a. never z (inr a)) t

not_open : (b : Bool) → not b ≡ false → b ≡ true
not_open true e = refl
not_open false e = cc

not_closed : (b : Bool) → not b ≡ true → b ≡ false
not_closed true e = cc
not_closed false e = refl

abbrev is_open : Run → Bool
is_open run = not run.is_closed

module _ (books : Books) where
  -- where none is shown, each is closed
  pub all_closed : open_row books ≡ None → (run : Run) → Among (values books.runs) run → run.is_closed ≡ true
  all_closed e run a = not_open run.is_closed (missed is_open (values books.runs) run e a)

  pub none_open : ((run : Run) → Among (values books.runs) run → run.is_closed ≡ true) → open_row books ≡ None
  none_open all = none_found is_open (values books.runs) (λ run a. ap not (all run a))

  -- the one that is shown is among them, and open
  pub shown_row : (row : Run) → open_row books ≡ Some row → Among (values books.runs) row × (row.is_closed ≡ false)
  shown_row row e = let f = found is_open (values books.runs) row e in (f.0, not_closed row.is_closed f.1)

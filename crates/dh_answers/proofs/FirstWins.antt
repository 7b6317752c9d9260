-- Entries put in one by one, each only where none is.
use Rattle.std.proofs.Common.{◌≡◌, ◌∙◌, refl, sym, ap, Bool, true, false, cond, Option, Some, None}
use Rattle.std.specs.declared.cmp.Ordering.{Ordering}
use Rattle.std.specs.Option.{is_some, option_or}
use Rattle.std.specs.Ordering.{is_eq}
use Rattle.std.specs.Cmp.{Equal-is}
use Rattle.std.specs.FinMap.{IsAntisymmetric}
use Rattle.std.proofs.lemmas.Bool.{false≢true}

module _ {X : Type 0} where
  pub nothing_after : (found : Option X) → option_or found None ≡ found
  nothing_after None = refl
  nothing_after (Some w) = refl

  new_there : (here : Bool) (v : X) (found : Option X) → (here ≡ true → is_some found ≡ false)
      → cond here (Some v) found ≡ option_or found (cond here (Some v) None)
  new_there here v None none = refl
  new_there true v (Some w) none = absurd (false≢true (sym (none refl)))
  new_there false v (Some w) none = refl

  old_there : (here : Bool) (v : X) (found : Option X) → (here ≡ true → is_some found ≡ true) → found ≡ option_or found (cond here (Some v) None)
  old_there true v None some = absurd (false≢true (some refl))
  old_there false v None some = refl
  old_there here v (Some w) some = refl

  module _ {K : Type 0} {R : K → K → Ordering} (anti : IsAntisymmetric R) (m : K → Option X) (k : K) (v : X) where
    alike : (key : K) → is_eq (R key k) ≡ true → is_some (m key) ≡ is_some (m k)
    alike key same = ap (λ q. is_some (m q)) (anti key k ((Equal-is (R key k)).0 same))

    -- a value put at k, where none was
    pub put_new : is_some (m k) ≡ false → (key : K) → cond (is_eq (R key k)) (Some v) (m key) ≡ option_or (m key) (cond (is_eq (R key k)) (Some v) None)
    put_new none key = new_there (is_eq (R key k)) v (m key) (λ same. alike key same ∙ none)

    -- none put at k, where one was
    pub put_old : is_some (m k) ≡ true → (key : K) → m key ≡ option_or (m key) (cond (is_eq (R key k)) (Some v) None)
    put_old some key = old_there (is_eq (R key k)) v (m key) (λ same. alike key same ∙ some)

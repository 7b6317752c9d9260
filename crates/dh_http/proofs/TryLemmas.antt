-- One try for the next connection more.
use Rattle.std.proofs.Common.{◌≡◌, ◌++◌, ◌+◌, ◌-◌, ◌^◌, ◌≤◌, [], ◌∷◌, ℕ, List, Option, Result, arith, inl, inr, length, length-append, refl}
use Rattle.std.specs.Prelude.{All}
use Rattle.std.specs.declared.io.Error.{Error}
use Rattle.std.proofs.lemmas.List.Elements.{All-push}
use Rattle.dh_http.specs.Calls.{Makes}
use Rattle.dh_http.specs.Accepting.{HasTried, IsInterrupted}
use Rattle.dh_http.proofs.CallLemmas.{makes_both, makes_none}

-- so far: so many tries were made, and each was interrupted
pub record IsTrying {T : Type 0} (a b : Option (List (Result T Error))) (turns : ℕ) : Type 0 where
  pub before : List (Result T Error)
  pub made : Makes a b before
  pub count_is : length before ≡ turns
  pub interrupted : All (λ it. IsInterrupted it) before

module _ {T : Type 0} (a m b : Option (List (Result T Error))) (turns : ℕ) (was : IsTrying a m turns) (it : Result T Error)
    (made : Makes m b (it ∷ [])) where
  -- the next try was interrupted too
  pub tried_again : IsInterrupted it → IsTrying a b (turns + 1)
  tried_again is = record {
    before = was.before ++ it ∷ [];
    made = makes_both a m b was.before (it ∷ []) was.made made;
    count_is = omega (arith, length-append was.before (it ∷ []), was.count_is);
    interrupted = All-push (λ (x : Result T Error). IsInterrupted x) was.before it was.interrupted is;
  }

  -- it was not
  pub tried_last : ¬ IsInterrupted it → (tries : List (Result T Error)) × Makes a b tries × HasTried tries it
  tried_last ends = (
    was.before ++ it ∷ [],
    makes_both a m b was.before (it ∷ []) was.made made,
    inl (record { before = was.before; are = refl; interrupted = was.interrupted; ends = ends }),
  )

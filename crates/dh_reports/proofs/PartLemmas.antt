-- A text that is written in two parts, the second perhaps only up to a place; and one that is gathered first.
use Rattle.std.proofs.Common.{◌≡◌, ◌∙◌, ℕ, Option, Some, List, [], ◌++◌, Result, Ok, Err, sym, ap, subst, append-nil}
use Rattle.std.specs.Prelude.{IsErr}
use Rattle.std.specs.Io.KnownBytes.{Appends}
use Rattle.std.proofs.KnownBytes.{Appends-trans}
use Rattle.dh_types.specs.Output.{BreaksOff, Puts}
use Rattle.dh_types.proofs.WritingLemmas.{written-start, written-part, written-part_front, Written}

front : (a b : Option (List ℕ)) (text rest : List ℕ) → BreaksOff a b text → BreaksOff a b (text ++ rest)
front a b text rest h = written-part_front a a b (text ++ rest) text rest (written-start a (text ++ rest)) h

behind : (a b c : Option (List ℕ)) (text rest : List ℕ) → Appends a b text → BreaksOff b c rest → BreaksOff a c (text ++ rest)
behind a b c text rest h k =
    let w : Written a b (text ++ rest) rest = written-part a a b (text ++ rest) text rest (written-start a (text ++ rest)) h in
    written-part_front a b c (text ++ rest) rest [] (subst (Written a b (text ++ rest)) (sym (append-nil rest)) w) k

module _ {T E : Type 0} (r : Result T E) where
  -- the first part broke off
  pub broke : (a b : Option (List ℕ)) (text rest : List ℕ) → IsErr r → BreaksOff a b text → Puts a b r (text ++ rest)
  broke a b text rest is h = broken r is (front a b text rest h)
    where
      broken : (x : Result T E) → IsErr x → BreaksOff a b (text ++ rest) → Puts a b x (text ++ rest)
      broken (Ok v) is h = cc
      broken (Err e) is h = h

  -- the first part was written
  pub goes_on : (a b c : Option (List ℕ)) (text rest : List ℕ) → Appends a b text → Puts b c r rest → Puts a c r (text ++ rest)
  goes_on a b c text rest h k = on r k
    where
      on : (x : Result T E) → Puts b c x rest → Puts a c x (text ++ rest)
      on (Ok v) k = Appends-trans a b c text rest h k
      on (Err e) k = behind a b c text rest h k

  -- what is written are bytes to which the text was appended, and which were none before
  pub gathered : (a b : Option (List ℕ)) (none bytes text : List ℕ) → none ≡ [] → Appends (Some none) (Some bytes) text → Puts a b r bytes → Puts a b r text
  gathered a b none bytes text empty h put = subst (Puts a b r) (h ∙ ap (λ l. l ++ text) empty) put

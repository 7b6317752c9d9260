-- The lines of a report, one after the other, the last of them perhaps only up to a place.
use Rattle.std.proofs.Common.{◌≡◌, ℕ, ◌+◌, ◌<◌, Option, List, [], ◌++◌, length, drop, get_or, drop-cons, add-one, Result, Ok, Err, refl, sym, subst}
use Rattle.std.proofs.Common.{append-nil}
use Rattle.std.specs.Prelude.{IsErr}
use Rattle.std.specs.List.{flat_map}
use Rattle.std.specs.Io.KnownBytes.{Appends}
use Rattle.std.proofs.KnownBytes.{Appends-trans}
use Rattle.dh_types.specs.Output.{BreaksOff, Puts}
use Rattle.dh_types.proofs.WritingLemmas.{Written, written-start, written-part, written-part_front}

-- what is left of the report of a list is the line of the next element, and those after it
rest-next : {X : Type 0} (line : X → List ℕ) (xs : List X) (i : ℕ) (d : X) → i < length xs
    → flat_map line (drop i xs) ≡ line (get_or xs i d) ++ flat_map line (drop (i + 1) xs)
rest-next line xs i d h = rw (add-one, drop-cons xs i d) refl

module _ {X : Type 0} (line : X → List ℕ) (a b c : Option (List ℕ)) (xs : List X) (i : ℕ) (x : X) (here : i < length xs) (is : x ≡ get_or xs i x) where
  pub lines-more : Written a b (flat_map line xs) (flat_map line (drop i xs)) → Appends b c (line x)
      → Written a c (flat_map line xs) (flat_map line (drop (i + 1) xs))
  lines-more w h = written-part a b c (flat_map line xs) (line x) _ (rw (rest-next line xs i x here, ← is) at w) h

  pub lines-front : Written a b (flat_map line xs) (flat_map line (drop i xs)) → BreaksOff b c (line x)
      → BreaksOff a c (flat_map line xs)
  lines-front w h = written-part_front a b c (flat_map line xs) (line x) _ (rw (rest-next line xs i x here, ← is) at w) h

-- it broke off in the first part
pub front : (a b : Option (List ℕ)) (text rest : List ℕ) → BreaksOff a b text → BreaksOff a b (text ++ rest)
front a b text rest h = written-part_front a a b (text ++ rest) text rest (written-start a (text ++ rest)) h

-- it broke off in the second part
pub behind : (a b c : Option (List ℕ)) (text rest : List ℕ) → Appends a b text → BreaksOff b c rest → BreaksOff a c (text ++ rest)
behind a b c text rest h k =
    let w : Written a b (text ++ rest) rest = written-part a a b (text ++ rest) text rest (written-start a (text ++ rest)) h in
    written-part_front a b c (text ++ rest) rest [] (subst (Written a b (text ++ rest)) (sym (append-nil rest)) w) k

module _ {T E : Type 0} (r : Result T E) where
  -- the first part broke off
  pub broke : (a b : Option (List ℕ)) (text rest : List ℕ) → IsErr r → BreaksOff a b text → Puts a b r (text ++ rest)
  broke a b text rest is h = broken r is (front a b text rest h)
    where
      broken : (x : Result T E) → IsErr x → BreaksOff a b (text ++ rest) → Puts a b x (text ++ rest)
      broken (Ok v) is h = cc
      broken (Err e) is h = h

  -- the first part was written
  pub goes_on : (a b c : Option (List ℕ)) (text rest : List ℕ) → Appends a b text → Puts b c r rest → Puts a c r (text ++ rest)
  goes_on a b c text rest h k = on r k
    where
      on : (x : Result T E) → Puts b c x rest → Puts a c x (text ++ rest)
      on (Ok v) k = Appends-trans a b c text rest h k
      on (Err e) k = behind a b c text rest h k

  -- all but the rest was written
  pub ends : (a b c : Option (List ℕ)) (text rest : List ℕ) → Written a b text rest → Puts b c r rest → Puts a c r text
  ends a b c text rest w h = subst (Puts a c r) (sym w.parts) (goes_on a b c w.done rest w.appended h)

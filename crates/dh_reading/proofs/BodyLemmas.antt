-- A body, of which the front was read before.
use Rattle.std.proofs.Common.{◌≡◌, ℕ, List, ◌++◌, Option, Some, None, length, take, sym, ap, ◌∙◌, arith, append-nil, length-append, length-take, IfSome, refl}
use Rattle.std.proofs.Common.{true, false, Bool}
use Rattle.std.specs.Io.KnownBytes.{Consumes, prepend_known}
use lib.Seq.{take-append_seam}
use Rattle.dh_reading.specs.Bodies.{IsFilled, FillsOrEnds}

pub after_front : (a : Option (List ℕ)) (front : List ℕ) → Consumes (prepend_known front a) a front
after_front None front = tt
after_front (Some xs) front = refl

pub filled : (a b : Option (List ℕ)) (front body : List ℕ) (whole : Bool) → FillsOrEnds (prepend_known front a) b body whole
    → IfSome a (λ after. IsFilled (front ++ after) body whole)
filled None b front body whole x = tt
filled (Some xs) None front body true x = absurd x
filled (Some xs) None front body false x = absurd x.2
filled (Some xs) (Some ys) front body true x = (omega (arith, ap length x, length-append body ys), sym (ap (take (length body)) x ∙ take-append_seam body ys))
filled (Some xs) (Some ys) front body false x =
    let all : front ++ xs ≡ take x.0 body = x.2 ∙ ap (λ l. take x.0 body ++ l) x.3 ∙ append-nil (take x.0 body) in
    omega (arith, ap length all, length-take x.0 body, x.1)

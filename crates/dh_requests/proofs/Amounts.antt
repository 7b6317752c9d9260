-- How much of a connection is read.
use Rattle.std.proofs.Common.{◌≡◌, ◌⊎◌, ℕ, zero, suc, ◌-◌, ◌+◌, ◌<◌, ◌≤◌, List, [], ◌++◌, Option, Some, None, IfSome, length, take, drop, inl, inr}
use Rattle.std.proofs.Common.{ap, subst, ◌∙◌, arith, length-append}
use Rattle.std.proofs.KnownBytes.{Consumes-trans}
use Rattle.httparse.specs.Grammar.{RequestHead, print_request}
use Rattle.httparse.specs.Spans.{IsRequestAt}
use Rattle.httparse.specs.declared.spans.HeaderSpan.{HeaderSpan}
use Rattle.dh_requests.specs.declared.head.Head.{Head}
use Rattle.dh_requests.specs.declared.head.HeadRead.{HeadRead}
use Rattle.dh_requests.specs.declared.head.HeadRead.TheVariants.{Found}
use Rattle.dh_requests.specs.declared.limits.TheConstants.{ROOM}
use Rattle.dh_requests.specs.Heads.{HeadOf, IsHead}
use Rattle.dh_reading.specs.Known.{ConsumesAtMost, IfBoth}
use Rattle.dh_reading.proofs.Taking.{takes_both}
use Rattle.dh_requests.specs.Requests.{ConsumesRequest, IsAnnounced, MayNeedMemory, WantsMemory}
use Rattle.dh_requests.specs.Steps.{ConsumesBody}

up : (a b : ℕ) → (a ≤ b) ⊎ (b < a) → (suc a ≤ suc b) ⊎ (suc b < suc a)
up a b (inl h) = inl (omega (arith, h))
up a b (inr h) = inr (omega (arith, h))

either : (a b : ℕ) → (a ≤ b) ⊎ (b < a)
either zero b = inl (omega arith)
either (suc a) zero = inr (omega arith)
either (suc a) (suc b) = up a b (either a b)

-- the head is read, what follows it in the buffer, and more of its body
few_behind : (input after front taken more : List ℕ) (h : RequestHead) (n : ℕ) → input ≡ print_request h ++ (front ++ after) → input ≡ taken ++ after
    → IsHead input h (front ++ after) → IsAnnounced h n → length taken ≤ ROOM → length more ≤ n - length front → (n ≤ length front) ⊎ (length front < n)
    → (length (taken ++ more) ≤ ROOM) ⊎ ((k : RequestHead) × (rest : List ℕ) × (m : ℕ) × IsHead input k rest × IsAnnounced k m
    × (length (taken ++ more) ≤ length (print_request k) + m))
few_behind input after front taken more h n is all head body room few (inl h1) = inl (omega (arith, length-append taken more, room, few, h1))
few_behind input after front taken more h n is all head body room few (inr h1) =
    let whole = ap length is ∙ length-append (print_request h) (front ++ after) in
    let parts = length-append front after in
    let same = ap length all ∙ length-append taken after in
    let sum = length-append taken more in
    inr (h, front ++ after, n, head, body, omega (arith, whole, parts, same, sum, few, h1))

takes_behind : (input after front : List ℕ) (d : Option (List ℕ)) (h : RequestHead) → IsHead input h (front ++ after)
    → ConsumesAtMost ROOM (Some input) (Some after) → ConsumesBody h front (Some after) d → ConsumesRequest (Some input) d
takes_behind input after front d h head t (inl y) =
    let z = takes_both ROOM 0 ROOM (Some input) (Some after) d t y (omega arith) in
    record { taken = z.taken; consumed = z.consumed; few = inl z.few }
takes_behind input after front d h head t (inr y) =
    let more = y.2 in
    record {
      taken = t.taken ++ more.taken;
      consumed = Consumes-trans (Some input) (Some after) d t.taken more.taken t.consumed more.consumed;
      few = few_behind input after front t.taken more.taken h y.0 head.reads.1 t.consumed head y.1 t.few more.few (either y.0 (length front));
    }

-- a head in a buffer, and what is read behind it
pub takes_request : (a b d : Option (List ℕ)) (buffer : List ℕ) (headers : List HeaderSpan) (read : HeadRead) (head : Head) → read ≡ Found head
    → ConsumesAtMost ROOM a b → IfBoth a b (λ input after. HeadOf input after buffer headers read)
    → ((h : RequestHead) → IsRequestAt (take head.filled buffer) headers head.spans h
    → ConsumesBody h (drop head.spans.len (take head.filled buffer)) b d)
    → ConsumesRequest a d
takes_request a b d buffer headers read head is t x f =
    by a b t (subst (λ r. IfBoth a b (λ input after. HeadOf input after buffer headers r)) is x) f
  where
    by : (a b : Option (List ℕ)) → ConsumesAtMost ROOM a b → IfBoth a b (λ input after. HeadOf input after buffer headers (Found head))
        → ((h : RequestHead) → IsRequestAt (take head.filled buffer) headers head.spans h
        → ConsumesBody h (drop head.spans.len (take head.filled buffer)) b d)
        → ConsumesRequest a d
    by None b t x f = record { taken = []; consumed = tt; few = inl (omega arith) }
    by (Some input) None t x f = absurd x
    by (Some input) (Some after) t x f =
        takes_behind input after (drop head.spans.len (take head.filled buffer)) d x.0 x.1.is t (f x.0 x.1.at)

-- memory ran out behind a head that stands in the buffer
pub needs_memory : (a b : Option (List ℕ)) (buffer : List ℕ) (headers : List HeaderSpan) (read : HeadRead) (head : Head) → read ≡ Found head
    → IfBoth a b (λ input after. HeadOf input after buffer headers read)
    → ((h : RequestHead) → IsRequestAt (take head.filled buffer) headers head.spans h → WantsMemory h)
    → IfSome a MayNeedMemory
needs_memory a b buffer headers read head is x f =
    by a b (subst (λ r. IfBoth a b (λ input after. HeadOf input after buffer headers r)) is x) f
  where
    by : (a b : Option (List ℕ)) → IfBoth a b (λ input after. HeadOf input after buffer headers (Found head))
        → ((h : RequestHead) → IsRequestAt (take head.filled buffer) headers head.spans h → WantsMemory h)
        → IfSome a MayNeedMemory
    by None b x f = tt
    by (Some input) None x f = absurd x
    by (Some input) (Some after) x f = (x.0, drop head.spans.len (take head.filled buffer) ++ after, x.1.is, f x.0 x.1.at)

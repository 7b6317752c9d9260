-- Steps of the order in which a request is judged.
use Rattle.std.proofs.Common.{◌≡◌, ◌≢◌, ◌++◌, ◌∷◌, [], Bor, false, List, ℕ, Option, Some, None, IfSome, ap, codes, drop, inl, inr, map, refl, subst, sym}
use Rattle.std.proofs.Common.{take, nat_eq}
use Rattle.std.specs.Prelude.{MatchOption, bytes_eq, option_map, slice_get}
use Rattle.std.specs.Cmp.Lexicographic.{pointwise}
use Rattle.httparse.specs.Spans.{IsRequestAt}
use Rattle.httparse.specs.declared.spans.HeaderSpan.{HeaderSpan}
use Rattle.dh_fields.specs.Lines.{field}
use Rattle.dh_requests.specs.Heads.{HeadOf}
use Rattle.dh_reading.specs.Known.{IfBoth}
use Rattle.dh_requests.specs.declared.head.Head.{Head}
use Rattle.dh_requests.specs.declared.head.HeadRead.{HeadRead}
use Rattle.dh_requests.specs.declared.head.HeadRead.TheVariants.{Found}
use Rattle.dh_requests.specs.Targets.{IsTarget}
use Rattle.httparse.specs.Grammar.{RequestHead}
use Rattle.dh_requests.specs.declared.routes.Route.{Route}
use Rattle.dh_requests.specs.declared.routes.Route.TheVariants as route
use Rattle.dh_requests.specs.declared.judged_request.JudgedRequest.{JudgedRequest}
use Rattle.dh_requests.specs.declared.judged_request.JudgedRequest.TheVariants as asked
use Rattle.dh_requests.specs.declared.judged_request.Turned.TheVariants as turned
use Rattle.dh_requests.specs.Requests.{IsByMethod, IsOfHead, IsOfRoute, IsOfTarget, IsQuestionOf, MayAsk, is_question, turned_by_lines}
use Rattle.dh_requests.specs.Steps.{Behind}

-- the route of a question is judged by GET
pub of_question : (asking : Route) → asking ≢ route.Commands → (h : RequestHead) (rest : List ℕ) (it : JudgedRequest)
    → IsByMethod (codes "GET") h.method turned.OnlyByGet it (IsQuestionOf asking h.target it) → IsOfRoute asking h rest it
of_question route.Commands other h rest it x = absurd (other refl)
of_question asking other h rest it x = x

-- the same, where what was read of the reader is told
pub by_question : (asking : Route) → asking ≢ route.Commands
    → (h : RequestHead) {method target : List ℕ} (front : List ℕ) (left : Option (List ℕ)) (it : JudgedRequest)
    → method ≡ h.method → target ≡ h.target → IsByMethod (codes "GET") method turned.OnlyByGet it (IsQuestionOf asking target it)
    → Behind front left (λ rest. IsOfRoute asking h rest it)
by_question asking other h {method} {target} front None it m t x = tt
by_question asking other h {method} {target} front (Some after) it m t x =
    of_question asking other h (front ++ after) it
    (subst (λ y. IsByMethod (codes "GET") y turned.OnlyByGet it (IsQuestionOf asking h.target it)) m
    (subst (λ y. IsByMethod (codes "GET") method turned.OnlyByGet it (IsQuestionOf asking y it)) t x))

-- what holds of all that may follow holds of what is left
pub behind : (front : List ℕ) (left : Option (List ℕ)) (P : List ℕ → Type 0) → ((rest : List ℕ) → P rest) → Behind front left P
behind front None P f = tt
behind front (Some after) P f = f (front ++ after)

pub behind_weaker : (front : List ℕ) (left : Option (List ℕ)) (P Q : List ℕ → Type 0) → ((rest : List ℕ) → P rest → Q rest) → Behind front left P
    → Behind front left Q
behind_weaker front None P Q f x = tt
behind_weaker front (Some after) P Q f x = f (front ++ after) x

-- a head whose lines do not turn it away
of_head : (h : RequestHead) (rest : List ℕ) (it : JudgedRequest) → None ≡ turned_by_lines h → IsOfTarget h rest it → IsOfHead h rest it
of_head h rest it none x = subst (λ o. MatchOption o (IsOfTarget h rest it) (λ why. it ≡ asked.Turned why)) none x

pub found : (h : RequestHead) → None ≡ turned_by_lines h → (route : Route) → IsTarget route h.target
    → (it : JudgedRequest) (front : List ℕ) (left : Option (List ℕ))
    → Behind front left (λ rest. IsOfRoute route h rest it) → Behind front left (λ rest. IsOfHead h rest it)
found h none route is it front left x =
    behind_weaker front left (λ rest. IsOfRoute route h rest it) (λ rest. IsOfHead h rest it) (λ rest y. of_head h rest it none (inr (route, is, y))) x

pub not_found : (h : RequestHead) → None ≡ turned_by_lines h → ((any : Route) → ¬ IsTarget any h.target) → (front : List ℕ) (left : Option (List ℕ))
    → Behind front left (λ rest. IsOfHead h rest (asked.Turned turned.NotFound))
not_found h lines none front left =
    behind front left (λ rest. IsOfHead h rest (asked.Turned turned.NotFound)) (λ rest. of_head h rest (asked.Turned turned.NotFound) lines (inl (none, refl)))

-- a head that stands in the buffer begins the input
pub may_ask : (a b : Option (List ℕ)) (buffer : List ℕ) (headers : List HeaderSpan) (read : HeadRead) (head : Head) (it : JudgedRequest) → read ≡ Found head
    → IfBoth a b (λ input after. HeadOf input after buffer headers read)
    → ((h : RequestHead) → IsRequestAt (take head.filled buffer) headers head.spans h
    → Behind (drop head.spans.len (take head.filled buffer)) b (λ rest. IsOfHead h rest it))
    → IfSome a (λ input. MayAsk input it)
may_ask a b buffer headers read head it is x f = by a b (subst (λ r. IfBoth a b (λ input after. HeadOf input after buffer headers r)) is x) f
  where
    by : (a b : Option (List ℕ)) → IfBoth a b (λ input after. HeadOf input after buffer headers (Found head))
        → ((h : RequestHead) → IsRequestAt (take head.filled buffer) headers head.spans h
        → Behind (drop head.spans.len (take head.filled buffer)) b (λ rest. IsOfHead h rest it))
        → IfSome a (λ input. MayAsk input it)
    by None b x f = tt
    by (Some input) None x f = absurd x
    by (Some input) (Some after) x f = inr (inr (x.0, drop head.spans.len (take head.filled buffer) ++ after, x.1.is, f x.0 x.1.at))

-- the first of the texts is field 1
pub show_first : (texts : List (Bor (List ℕ))) (word : List ℕ) → option_map (λ t. t.now) (slice_get texts 0) ≡ Some word
    → pointwise nat_eq word (codes "show") ≡ is_question (map (λ t. t.now) texts)
unfolding field
show_first [] word is = cc
show_first (t ∷ texts) word is =
    let same : t.now ≡ word = cc in
    ap (λ w. bytes_eq w (codes "show")) (sym same)

pub show_none : (texts : List (Bor (List ℕ))) → slice_get texts 0 ≡ None → false ≡ is_question (map (λ t. t.now) texts)
unfolding field
show_none [] is = refl
show_none (t ∷ texts) is = cc

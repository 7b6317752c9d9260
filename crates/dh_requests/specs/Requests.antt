-- What the bytes of a connection ask for: the first line of the order of judgement that applies.
use Rattle.std.specs.Prelude.{◌≡◌, ◌≢◌, ◌⊎◌, ℕ, ◌+◌, ◌<◌, ◌≤◌, ◌&&◌, ◌==◌, Bool, not, nat_lt, if◌then◌else◌, List, [], ◌∷◌, length, map, take, codes, bytes_eq}
use Rattle.std.specs.Prelude.{Option, Some, None, IfSome, MatchOption, Result, Err}
use Rattle.std.specs.Io.KnownBytes.{Consumes}
use Rattle.httparse.specs.Grammar.{RequestHead, print_request}
use Rattle.httparse.specs.Spans.{name_and_value}
use Rattle.dh_types.specs.declared.reply.Refusal.{Refusal}
use Rattle.dh_types.specs.declared.reply.Refusal.TheVariants.{BadLine}
use Rattle.dh_types.specs.declared.request.Request.{Request}
use Rattle.dh_fields.specs.Lines.{Fields, field, request_of}
use Rattle.dh_requests.specs.Heads.{IsHead, IsBadHead, IsLargeHead}
use Rattle.dh_requests.specs.HeaderLines.{body_length, values_of}
use Rattle.dh_requests.specs.declared.limits.TheConstants.{ROOM}
use Rattle.dh_requests.specs.declared.header_lines.BodyLength.{BodyLength}
use Rattle.dh_requests.specs.declared.header_lines.BodyLength.TheVariants.{Absent, Invalid, TooLarge, Bytes}
use Rattle.dh_requests.specs.Routes.{words_of}
use Rattle.dh_requests.specs.Targets.{HasPieces, IsTarget}
use Rattle.dh_requests.specs.declared.routes.Route.{Route}
use Rattle.dh_requests.specs.declared.routes.Route.TheVariants as route
use Rattle.dh_requests.specs.Texts.{AreTexts}
use Rattle.dh_requests.specs.declared.judged_request.JudgedRequest.{JudgedRequest}
use Rattle.dh_requests.specs.declared.judged_request.JudgedRequest.TheVariants as asked
use Rattle.dh_requests.specs.declared.judged_request.Turned.{Turned}
use Rattle.dh_requests.specs.declared.judged_request.Turned.TheVariants as turned

-- ---- a command by its body

-- the fields of a line that asks a question
abbrev pub is_question : Fields → Bool
is_question fields = bytes_eq (field fields 1) (codes "show")

-- a question is asked by its route alone: as a line that is posted its first field is bad
abbrev pub posted : Fields → Result Request Refusal
posted fields = if is_question fields then Err (BadLine 1) else request_of fields

-- the body is a list of texts, which are the fields of a line, or it is none
abbrev pub IsPosted : List ℕ → JudgedRequest → Type 0
IsPosted body it =
    (((texts : List (List ℕ)) → ¬ AreTexts body texts) × (it ≡ asked.Turned turned.BadRequest))
    ⊎ ((texts : List (List ℕ)) × AreTexts body texts × (it ≡ asked.Fields (posted texts)))

-- these bytes follow the head, and so many of them are the body
abbrev pub IsBodyOf : BodyLength → List ℕ → JudgedRequest → Type 0
IsBodyOf Absent rest it = it ≡ asked.Turned turned.NoLength
IsBodyOf Invalid rest it = it ≡ asked.Turned turned.BadRequest
IsBodyOf TooLarge rest it = it ≡ asked.Turned turned.BodyTooLarge
IsBodyOf (Bytes n) rest it = ((length rest < n) × (it ≡ asked.Turned turned.BadRequest)) ⊎ ((n ≤ length rest) × IsPosted (take n rest) it)

-- ---- a question by its route

-- as many pieces of a target as these
abbrev pub taken_as : List (List ℕ) → List ℕ → List ℕ → Fields
taken_as [] first second = []
taken_as (piece ∷ []) first second = first ∷ []
taken_as (piece ∷ other ∷ more) first second = first ∷ second ∷ []

-- the fields of the question that a route asks with these pieces of its target
abbrev pub question_fields : Route → List ℕ → List ℕ → Fields
question_fields route.Commands first second = []
question_fields asking first second = codes "show" ∷ (words_of asking).word ∷ taken_as (words_of asking).pieces first second

abbrev pub IsQuestionOf : Route → List ℕ → JudgedRequest → Type 0
IsQuestionOf asking target it =
    (first : List ℕ) × (second : List ℕ) × HasPieces asking target first second × (it ≡ asked.Fields (request_of (question_fields asking first second)))

-- ---- the order

-- the values of the lines of this name
abbrev pub values_in : List ℕ → RequestHead → List (List ℕ)
values_in name h = values_of name (map name_and_value h.fields)

-- a version 1.1 without exactly one Host line, and then a Transfer-Encoding line, turn a request away
abbrev pub turned_by_lines : RequestHead → Option Turned
turned_by_lines h =
    if h.minor == 1 && not (length (values_in (codes "host") h) == 1) then Some turned.BadRequest
    else (if nat_lt 0 (length (values_in (codes "transfer-encoding") h)) then Some turned.NotImplemented else None)

-- the method is the route's, or the request is turned away
abbrev pub IsByMethod : List ℕ → List ℕ → Turned → JudgedRequest → Type 0 → Type 0
IsByMethod wanted method other it rest = ((method ≢ wanted) × (it ≡ asked.Turned other)) ⊎ ((method ≡ wanted) × rest)

abbrev pub IsOfRoute : Route → RequestHead → List ℕ → JudgedRequest → Type 0
IsOfRoute route.Commands h rest it =
    IsByMethod (codes "POST") h.method turned.OnlyByPost it (IsBodyOf (body_length (values_in (codes "content-length") h)) rest it)
IsOfRoute other h rest it = IsByMethod (codes "GET") h.method turned.OnlyByGet it (IsQuestionOf other h.target it)

abbrev pub IsOfTarget : RequestHead → List ℕ → JudgedRequest → Type 0
IsOfTarget h rest it =
    (((any : Route) → ¬ IsTarget any h.target) × (it ≡ asked.Turned turned.NotFound))
    ⊎ ((found : Route) × IsTarget found h.target × IsOfRoute found h rest it)

-- a head within the limits, and what follows it
abbrev pub IsOfHead : RequestHead → List ℕ → JudgedRequest → Type 0
IsOfHead h rest it = MatchOption (turned_by_lines h) (IsOfTarget h rest it) (λ why. it ≡ asked.Turned why)

-- The bytes of a connection, at least one, may be told so. Where they hold no head within the limits and are both never a head and
-- too large, either may be said.
abbrev pub MayAsk : List ℕ → JudgedRequest → Type 0
MayAsk input it =
    (IsBadHead input × (it ≡ asked.Turned turned.BadRequest)) ⊎ (IsLargeHead input × (it ≡ asked.Turned turned.HeadTooLarge))
    ⊎ ((h : RequestHead) × (rest : List ℕ) × IsHead input h rest × IsOfHead h rest it)

-- ---- what is read, and what takes memory

-- a command whose body is announced to have so many bytes
pub record IsAnnounced (h : RequestHead) (n : ℕ) : Type 0 where
  pub target : IsTarget route.Commands h.target
  pub method : h.method ≡ codes "POST"
  pub bytes : body_length (values_in (codes "content-length") h) ≡ Bytes n

-- How much of a connection is read: no more than the buffer of heads holds; or no byte behind the body that a command announces.
pub record ConsumesRequest (old new : Option (List ℕ)) : Type 0 where
  pub taken : List ℕ
  pub consumed : Consumes old new taken
  pub few : (length taken ≤ ROOM) ⊎ IfSome old (λ input. (h : RequestHead) × (rest : List ℕ) × (n : ℕ) × IsHead input h rest × IsAnnounced h n
      × (length taken ≤ length (print_request h) + n))

-- a request of this route takes memory: a command whose body is announced
abbrev pub NeedsMemory : Route → RequestHead → Type 0
NeedsMemory route.Commands h = (h.method ≡ codes "POST") × ((n : ℕ) × (body_length (values_in (codes "content-length") h) ≡ Bytes n))
NeedsMemory other h = ⊥

-- the lines of a head do not turn it away, and a request of its route takes memory
abbrev pub WantsMemory : RequestHead → Type 0
WantsMemory h = (turned_by_lines h ≡ None) × ((route : Route) × IsTarget route h.target × NeedsMemory route h)

-- the bytes begin with such a head within the limits
abbrev pub MayNeedMemory : List ℕ → Type 0
MayNeedMemory input = (h : RequestHead) × (rest : List ℕ) × IsHead input h rest × WantsMemory h

-- What the bytes of a connection are, as far as the head of its request goes.
use Rattle.std.specs.Prelude.{◌≡◌, ℕ, ◌+◌, ◌<◌, ◌≤◌, ◌⊎◌, List, [], ◌++◌, length, take, drop, ⊤}
use Rattle.httparse.specs.Grammar.{RequestHead, print_request, ReadsRequest, HasNoRequest, NeverHasRequest, MayBecomeRequest}
use Rattle.httparse.specs.Spans.{IsRequestAt, IsRequestWithin, RequestExceeds, RequestOverflows}
use Rattle.httparse.specs.declared.spans.HeaderSpan.{HeaderSpan}
use Rattle.httparse.specs.declared.spans.RequestSpans.{RequestSpans}
use Rattle.dh_requests.specs.declared.limits.TheConstants.{HEAD_BYTES, HEADER_LINES}
use Rattle.dh_requests.specs.declared.head.Head.{Head}
use Rattle.dh_requests.specs.declared.head.HeadRead.{HeadRead}
use Rattle.dh_requests.specs.declared.head.HeadRead.TheVariants.{Found, Closed, Bad, Large}
use Rattle.dh_requests.specs.declared.head.Judged.{Judged}
use Rattle.dh_requests.specs.declared.head.Judged.TheVariants.{Whole, Partial, Wrong, TooLarge}

-- the input begins with this head, which keeps the limits, and goes on with rest
pub record IsHead (input : List ℕ) (h : RequestHead) (rest : List ℕ) : Type 0 where
  pub reads : ReadsRequest input h rest
  pub bytes : length (print_request h) ≤ HEAD_BYTES
  pub few : length h.fields ≤ HEADER_LINES

-- some bytes came, and no continuation makes them a head, or they end before one is complete
abbrev pub IsBadHead : List ℕ → Type 0
IsBadHead input = (0 < length input) × (NeverHasRequest input ⊎ (HasNoRequest input × (length input ≤ HEAD_BYTES)))

-- no head within the limits, and too many lines, or too many bytes that could still have been a head
pub record IsLargeHead (input : List ℕ) : Type 0 where
  pub none : (h : RequestHead) (rest : List ℕ) → ¬ IsHead input h rest
  pub cause : RequestExceeds HEADER_LINES input
      ⊎ ((HEAD_BYTES < length input) × MayBecomeRequest (take (HEAD_BYTES + 1) input))

-- the head is in the buffer, where the spans say, and the first bytes after it too
pub record IsFound (input after buffer : List ℕ) (headers : List HeaderSpan) (head : Head) (h : RequestHead) : Type 0 where
  pub filled : head.filled ≤ length buffer
  pub at : IsRequestAt (take head.filled buffer) headers head.spans h
  pub is : IsHead input h (drop head.spans.len (take head.filled buffer) ++ after)

-- what a call that answered says of the input; after is what it has left of it
abbrev pub HeadOf : List ℕ → List ℕ → List ℕ → List HeaderSpan → HeadRead → Type 0
HeadOf input after buffer headers (Found head) = (h : RequestHead) × IsFound input after buffer headers head h
HeadOf input after buffer headers Closed = input ≡ []
HeadOf input after buffer headers Bad = IsBadHead input
HeadOf input after buffer headers Large = IsLargeHead input

-- the bytes so far have no head in them yet and may get one
pub record IsUnfinished (front : List ℕ) : Type 0 where
  pub none : HasNoRequest front
  pub may : MayBecomeRequest front

pub record IsWhole (front : List ℕ) (headers : List HeaderSpan) (spans : RequestSpans) (h : RequestHead) : Type 0 where
  pub within : IsRequestWithin front headers spans
  pub at : IsRequestAt front headers spans h
  pub few : length h.fields ≤ HEADER_LINES

pub record IsCrowded (front : List ℕ) : Type 0 where
  pub over : RequestOverflows HEADER_LINES front
  pub lines : RequestExceeds HEADER_LINES front

-- what the bytes so far are
abbrev pub JudgedAs : List ℕ → List HeaderSpan → Judged → Type 0
JudgedAs front headers (Whole spans) = (h : RequestHead) × IsWhole front headers spans h
JudgedAs front headers Partial = IsUnfinished front
JudgedAs front headers Wrong = NeverHasRequest front
JudgedAs front headers TooLarge = IsCrowded front

-- whatever is known of the reader, the spans of a head lie in the buffer
pub record IsInBuffer (buffer : List ℕ) (headers : List HeaderSpan) (head : Head) : Type 0 where
  pub filled : head.filled ≤ length buffer
  pub within : IsRequestWithin (take head.filled buffer) headers head.spans
  pub at : (h : RequestHead) × IsRequestAt (take head.filled buffer) headers head.spans h

abbrev pub IfFound : HeadRead → (Head → Type 0) → Type 0
IfFound (Found head) P = P head
IfFound Closed P = ⊤
IfFound Bad P = ⊤
IfFound Large P = ⊤

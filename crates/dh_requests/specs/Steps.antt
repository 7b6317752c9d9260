-- Words of the steps to what a request asks for.
use Rattle.std.specs.Prelude.{◌≡◌, ◌≢◌, ◌⊎◌, ℕ, ◌-◌, ◌≤◌, List, ◌++◌, drop, length, take, codes, Option, IfSome}
use Rattle.serde_json.specs.Data.{array}
use Rattle.serde_json.specs.View.{items_view}
use Rattle.serde_json.specs.declared.value.Value.{Value}
use Rattle.httparse.specs.Grammar.{RequestHead}
use Rattle.httparse.specs.Spans.{IsRequestAt, IsRequestWithin}
use Rattle.dh_requests.specs.HeaderLines.{body_length}
use Rattle.dh_reading.specs.Known.{ConsumesAtMost}
use Rattle.dh_requests.specs.declared.header_lines.BodyLength.{BodyLength}
use Rattle.dh_requests.specs.declared.verdict.Found.{Found}
use Rattle.dh_requests.specs.declared.header_lines.BodyLength.TheVariants.{Absent, Invalid, TooLarge, Bytes}
use Rattle.dh_requests.specs.Texts.{AreTexts, list_of}
use Rattle.dh_requests.specs.Requests.{IsAnnounced, posted, values_in}
use Rattle.dh_requests.specs.declared.judged_request.JudgedRequest.{JudgedRequest}
use Rattle.dh_requests.specs.declared.judged_request.JudgedRequest.TheVariants as asked
use Rattle.dh_requests.specs.declared.judged_request.Turned.TheVariants as turned

-- what a list of values asks for
abbrev pub IsListed : List Value → JudgedRequest → Type 0
IsListed items it =
    (((texts : List (List ℕ)) → array (items_view items) ≢ list_of texts) × (it ≡ asked.Turned turned.BadRequest))
    ⊎ ((texts : List (List ℕ)) × (array (items_view items) ≡ list_of texts) × (it ≡ asked.Fields (posted texts)))

-- the head that was found stands in the buffer, and is this one
abbrev pub HoldsHead : Found → Type 0
HoldsHead found = IsRequestWithin found.front.now found.headers.now found.spans

abbrev pub IsHeadOf : Found → RequestHead → Type 0
IsHeadOf found h = IsRequestAt found.front.now found.headers.now found.spans h

-- what was read behind it
abbrev pub read_behind : Found → List ℕ
read_behind found = drop found.spans.len found.front.now

-- P of what follows the head, where the reader's bytes are known: what was read already, and what is left
abbrev pub Behind : List ℕ → Option (List ℕ) → (List ℕ → Type 0) → Type 0
Behind front remaining P = IfSome remaining (λ after. P (front ++ after))

-- the body of so many bytes is all there, and is a list of texts
abbrev pub IsTextsOf : ℕ → List ℕ → Type 0
IsTextsOf n rest = (n ≤ length rest) × ((texts : List (List ℕ)) × AreTexts (take n rest) texts)

-- what is read behind front: as much as it lacks of the body that is announced so
abbrev pub ConsumesLength : BodyLength → List ℕ → Option (List ℕ) → Option (List ℕ) → Type 0
ConsumesLength Absent front old new = ConsumesAtMost 0 old new
ConsumesLength Invalid front old new = ConsumesAtMost 0 old new
ConsumesLength TooLarge front old new = ConsumesAtMost 0 old new
ConsumesLength (Bytes n) front old new = ConsumesAtMost (n - length front) old new

-- the same of a request to the route of commands: as much as front lacks of the body of a POST
abbrev pub ConsumesOrder : RequestHead → List ℕ → Option (List ℕ) → Option (List ℕ) → Type 0
ConsumesOrder h front old new =
    ConsumesAtMost 0 old new
    ⊎ ((n : ℕ) × (h.method ≡ codes "POST") × (body_length (values_in (codes "content-length") h) ≡ Bytes n) × ConsumesAtMost (n - length front) old new)

-- the same of any request: nothing but the body of a command
abbrev pub ConsumesBody : RequestHead → List ℕ → Option (List ℕ) → Option (List ℕ) → Type 0
ConsumesBody h front old new = ConsumesAtMost 0 old new ⊎ ((n : ℕ) × IsAnnounced h n × ConsumesAtMost (n - length front) old new)

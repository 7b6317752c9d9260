-- The bytes of answers.
use Rattle.std.specs.Prelude.{◌≡◌, ℕ, Bool, List, [], ◌++◌, length, codes, decimal, unwrap_or, Option, Result, Ok, Err}
use Rattle.std.specs.Io.KnownBytes.{Appends}
use Rattle.http.specs.StatusCode.{code_digits, reason_phrase}
use Rattle.dh_types.specs.Output.{BreaksOff}
use Rattle.dh_types.specs.declared.reply.Reply.{Reply}
use Rattle.dh_types.specs.declared.reply.Reply.TheVariants as reply
use Rattle.dh_types.specs.declared.reply.Refusal.{Refusal}
use Rattle.dh_types.specs.declared.reply.Refusal.TheVariants as refusal
use Rattle.dh_types.specs.declared.reply.Fault.{Fault}
use Rattle.dh_types.specs.declared.reply.Fault.TheVariants as fault
use Rattle.dh_types.specs.Replies.{fault_text, refusal_number, refusal_text, reply_text}
use Rattle.dh_types.specs.Reports.{Report, NoReport}
use Rattle.dh_reports.specs.ReportTexts.{report_text}
use Rattle.dh_requests.specs.Texts.{reply_body}
use Rattle.dh_requests.specs.declared.judged_request.Turned.{Turned}
use Rattle.dh_requests.specs.declared.judged_request.Turned.TheVariants as turned
use Rattle.dh_http.specs.declared.answers.Content.{Content}
use Rattle.dh_http.specs.declared.answers.Content.TheVariants.{Json, Report as Text, Empty}
use Rattle.dh_http.specs.declared.answers.Body.{Body}
use Rattle.dh_http.specs.declared.answers.Body.TheVariants.{Made, Fixed}
use Rattle.dh_http.specs.declared.answers.Response.{Response}
use Rattle.dh_http.specs.declared.fault.NetFault.{NetFault}
use Rattle.dh_http.specs.declared.fault.NetFault.TheVariants.{Output, Memory}

-- what an answer says; allow is a whole header line, or nothing
pub record Answer : Type 0 where
  pub status : ℕ
  pub content : Content
  pub allow : List ℕ
  pub body : List ℕ

abbrev pub content_line : Content → List ℕ
content_line Json = codes "Content-Type: application/json\r\n"
content_line Text = codes "Content-Type: text/plain; charset=utf-8\r\n"
content_line Empty = []

-- the head of an answer whose body has so many bytes, with its empty line
abbrev pub head_text : ℕ → Content → ℕ → List ℕ → List ℕ
head_text status content bytes allow =
    codes "HTTP/1.1 " ++ (code_digits status ++ (codes " " ++ (unwrap_or (reason_phrase status) [] ++ (codes "\r\n"
    ++ (content_line content ++ (codes "Content-Length: " ++ (decimal bytes ++ (codes "\r\n" ++ (allow ++ codes "Connection: close\r\n\r\n")))))))))

abbrev pub head_of : Answer → List ℕ
head_of it = head_text it.status it.content (length it.body) it.allow

abbrev pub answer_text : Answer → List ℕ
answer_text it = head_of it ++ it.body

-- ---- a request that is turned away

abbrev pub turned_status : Turned → ℕ
turned_status turned.BadRequest = 400
turned_status turned.NotFound = 404
turned_status turned.OnlyByPost = 405
turned_status turned.OnlyByGet = 405
turned_status turned.NoLength = 411
turned_status turned.BodyTooLarge = 413
turned_status turned.HeadTooLarge = 431
turned_status turned.NotImplemented = 501

abbrev pub allow_line : Turned → List ℕ
allow_line turned.OnlyByPost = codes "Allow: POST\r\n"
allow_line turned.OnlyByGet = codes "Allow: GET\r\n"
allow_line _ = []

abbrev pub turned_answer : Turned → Answer
turned_answer why = record { status = turned_status why; content = Empty; allow = allow_line why; body = [] }

-- ---- replies, refusals, reports and faults

abbrev pub json_answer : ℕ → ℕ → List ℕ → Answer
json_answer status code text = record { status = status; content = Json; allow = []; body = reply_body code text }

abbrev pub refusal_status : Refusal → ℕ
refusal_status (refusal.BadLine field) = 400
refusal_status _ = 409

abbrev pub refusal_answer : Refusal → Answer
refusal_answer why = json_answer (refusal_status why) (refusal_number why) (refusal_text why)

abbrev pub reply_answer : Reply → Answer
reply_answer (reply.Refused why) = refusal_answer why
reply_answer it = json_answer 200 0 (reply_text it)

abbrev pub report_answer : Report → Answer
report_answer (NoReport why) = refusal_answer why
report_answer it = record { status = 200; content = Text; allow = []; body = report_text it }

abbrev pub fault_number : Fault → ℕ
fault_number fault.Memory = 21
fault_number fault.Store = 22
fault_number fault.Stopped = 23

abbrev pub fault_answer : Fault → Answer
fault_answer it = json_answer 503 (fault_number it) (fault_text it)

-- ---- an answer is sent

abbrev pub body_bytes : Body → List ℕ
body_bytes (Made bytes) = bytes.items
body_bytes (Fixed text) = text.now

-- what an answer says that was made
abbrev pub said : Response → Answer
said it = record { status = it.status; content = it.content; allow = it.allow.now; body = body_bytes it.body }

-- the whole was written, and its status is told; or the writer failed in it
abbrev pub Writes : Option (List ℕ) → Option (List ℕ) → Answer → Result ℕ NetFault → Type 0
Writes old new it (Ok status) = Appends old new (answer_text it) × (status ≡ it.status)
Writes old new it (Err (Output failed)) = BreaksOff old new (answer_text it)
Writes old new it (Err _) = ⊥

-- the same, or memory for the answer had run out, and nothing was written
abbrev pub Sends : {E : Type 0} → Option (List ℕ) → Option (List ℕ) → Bool → Result Response E → Result ℕ NetFault → Type 0
Sends old new acted (Ok it) result = Writes old new (said it) result
Sends old new acted (Err e) result = (new ≡ old) × (result ≡ Err (Memory acted))

-- The lines that the records of an input are answered, and the state after them.
use Rattle.std.specs.Prelude.{ℕ, ◌+◌, Bool, List, [], ◌∷◌, ◌++◌, codes, if◌then◌else◌, Result}
use Rattle.std.specs.Fmt.{decimal}
use Rattle.csv.specs.Reading.{default_config, records, strip_bom}
use Rattle.dh_types.specs.declared.reply.Reply.{Reply}
use Rattle.dh_types.specs.declared.reply.Refusal.{Refusal}
use Rattle.dh_types.specs.declared.reply.Fault.{Fault}
use Rattle.dh_types.specs.Replies.{reply_text, refusal_text, fault_text}
use Rattle.dh_types.specs.Reports.{Report, NoReport}
use Rattle.dh_model.specs.Books.{State}
use Rattle.dh_agency.specs.Requests.{Said, Replied, Reported, said_to, says_no}
use Rattle.dh_reports.specs.Columns.{newline}
use Rattle.dh_reports.specs.ReportTexts.{report_text, line_count}
use Rattle.dh_types.specs.declared.request.Request.{Request}
use Rattle.dh_fields.specs.Lines.{Fields, request_of}

-- the records of an input, as csv reads them with its defaults
abbrev pub records_of : List ℕ → List Fields
records_of input = records default_config (strip_bom input)

-- what a record is answered: the state after it, the text behind its number, and whether it was refused
pub record Answered : Type 0 where
  pub state : State
  pub text : List ℕ
  pub is_refused : Bool

-- how many lines a report has, and they
abbrev pub shown_text : Report → List ℕ
shown_text it = codes "shown " ++ decimal (line_count it) ++ newline ++ report_text it

-- the text of a report behind the record's number
abbrev pub reported_text : Report → List ℕ
reported_text (NoReport refusal) = refusal_text refusal ++ newline
reported_text it = shown_text it

-- the text of what is said
abbrev pub said_text : Said → List ℕ
said_text (Replied it) = reply_text it ++ newline
said_text (Reported it) = reported_text it

abbrev pub answered_as : State → Said → Answered
answered_as s it = record { state = s; text = said_text it; is_refused = says_no it }

abbrev pub replied : State × Reply → Answered
replied after = answered_as after.0 (Replied after.1)

abbrev pub answered_request : State → Result Request Refusal → Answered
answered_request s request = answered_as (said_to s request).0 (said_to s request).1

abbrev pub answered : State → Fields → Answered
answered s fields = answered_request s (request_of fields)

-- the line of record n: its number, a space, its answer
abbrev pub numbered : ℕ → List ℕ → List ℕ
numbered n text = decimal n ++ 32 ∷ text

abbrev pub line : ℕ → State → Fields → List ℕ
line n s fields = numbered n (answered s fields).text

-- the lines of the records from number n on
abbrev pub lines_from : ℕ → State → List Fields → List ℕ
lines_from n s [] = []
lines_from n s (r ∷ rs) = line n s r ++ lines_from (n + 1) (answered s r).state rs

-- the state after the records
abbrev pub state_after : State → List Fields → State
state_after s [] = s
state_after s (r ∷ rs) = state_after (answered s r).state rs

-- how many of the records were refused
abbrev pub refused_in : State → List Fields → ℕ
refused_in s [] = 0
refused_in s (r ∷ rs) = (if (answered s r).is_refused then 1 else 0) + refused_in (answered s r).state rs

-- the line of a record that met a fault
abbrev pub fault_line : ℕ → Fault → List ℕ
fault_line n fault = numbered n (fault_text fault ++ newline)

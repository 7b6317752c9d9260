-- Which answer a reply is given.
use Rattle.std.proofs.Common.{◌≢◌, ◌≡◌, ◌∙◌, ◌++◌, [], ℕ, List, ap, arith, false, refl}
use Rattle.dh_types.specs.Reports.{Report, NoReport}
use Rattle.dh_types.specs.Reports.{is_no_report}
use Rattle.dh_reports.specs.ReportTexts.{report_text}
use Rattle.dh_types.specs.declared.reply.Reply.{Reply}
use Rattle.dh_types.specs.declared.reply.Reply.TheVariants as reply
use Rattle.dh_types.specs.declared.reply.Refusal.{Refusal}
use Rattle.dh_types.specs.declared.reply.Refusal.TheVariants as refusal
use Rattle.dh_types.specs.Replies.{reply_text}
use Rattle.dh_requests.specs.declared.judged_request.Turned.{Turned}
use Rattle.dh_requests.specs.declared.judged_request.Turned.TheVariants as turned
use Rattle.dh_agency.specs.Requests.{Said, Replied, Reported}
use Rattle.dh_http.specs.Served.{said_answer}
use Rattle.dh_http.specs.Answers.{json_answer, refusal_status, reply_answer, report_answer, turned_status}
use Rattle.dh_http.specs.declared.answers.Content.TheVariants.{Report as Text}

-- a reply that is no refusal is told with code 0
pub accepted_is : (it : Reply) → ((why : Refusal) → it ≡ reply.Refused why → ⊥) → json_answer 200 0 (reply_text it) ≡ reply_answer it
accepted_is (reply.Refused why) other = absurd (other why refl)
accepted_is reply.Accepted other = refl
accepted_is reply.Already other = refl
accepted_is (reply.Receipt number) other = refl
accepted_is (reply.AlreadyReceipt number) other = refl
accepted_is (reply.Opened month) other = refl
accepted_is (reply.Progress run) other = refl
accepted_is (reply.Posted sum) other = refl
accepted_is (reply.AlreadyPosted sum) other = refl

-- a report is told as its text
pub report_is : (it : Report) → is_no_report it ≡ false → record { status = 200; content = Text; allow = []; body = report_text it } ≡ report_answer it
report_is (NoReport why) none = cc
report_is it none = refl

-- what is written to an empty list is the list
pub filled : (old new text : List ℕ) → old ≡ [] → new ≡ old ++ text → new ≡ text
filled old new text empty h = h ∙ ap (λ l. l ++ text) empty

-- an answer of an agency that goes on is no 503
pub turned_goes_on : (why : Turned) → turned_status why ≢ 503
turned_goes_on turned.BadRequest = λ e. absurd (omega (arith, e))
turned_goes_on _ = λ e. absurd (omega (arith, e))

pub refusal_goes_on : (why : Refusal) → refusal_status why ≢ 503
refusal_goes_on (refusal.BadLine field) = λ e. absurd (omega (arith, e))
refusal_goes_on _ = λ e. absurd (omega (arith, e))

pub reply_goes_on : (it : Reply) → (reply_answer it).status ≢ 503
reply_goes_on (reply.Refused why) = refusal_goes_on why
reply_goes_on _ = λ e. absurd (omega (arith, e))

pub report_goes_on : (it : Report) → (report_answer it).status ≢ 503
report_goes_on (NoReport why) = refusal_goes_on why
report_goes_on _ = λ e. absurd (omega (arith, e))

pub said_goes_on : (it : Said) → (said_answer it).status ≢ 503
said_goes_on (Replied it) = reply_goes_on it
said_goes_on (Reported it) = report_goes_on it

-- What a request is answered, and what a fault, or a crash as the call returns, leaves of it.
use Rattle.std.specs.Prelude.{◌≡◌, true, false, Bool, Result, Ok, Err, OnOk, OnErr, IfErr, IsOk, ⊤}
use Rattle.sqlite.specs.Store.{Ghosts}
use Rattle.dh_types.specs.declared.reply.Fault.{Fault}
use Rattle.dh_types.specs.declared.reply.Fault.TheVariants as fault
use Rattle.dh_types.specs.declared.reply.Refusal.{Refusal}
use Rattle.dh_types.specs.declared.reply.Reply.{Reply}
use Rattle.dh_types.specs.declared.reply.Reply.TheVariants as reply
use Rattle.dh_types.specs.Replies.{is_refusal}
use Rattle.dh_types.specs.Reports.{Report, is_no_report, report_of}
use Rattle.dh_model.specs.Answers.{report}
use Rattle.dh_model.specs.Books.{State}
use Rattle.dh_model.specs.Machine.{step}
use Rattle.dh_model.specs.Runs.{batch_size}
use Rattle.dh_schema.specs.Faults.{IsFirstFault}
use Rattle.dh_types.specs.declared.request.Request.{Request}
use Rattle.dh_types.specs.declared.request.Request.TheVariants.{Command, Question}
use Rattle.dh_agency.specs.AgencyView.{AgencyView}
use Rattle.dh_agency.specs.Agency.{WasClean}
use Rattle.dh_agency.specs.Outcomes.{IsInterrupted}
use Rattle.dh_agency.specs.declared.requests.Response.{Response}
use Rattle.dh_agency.specs.declared.requests.Response.TheVariants as response

-- a reply, or a report
pub data Said : Type 0 where
  Replied : Reply → Said
  Reported : Report → Said

abbrev pub said_in : Response → Said
said_in (response.Reply it) = Replied it
said_in (response.Report it) = Reported (report_of it)

abbrev pub says_no : Said → Bool
says_no (Replied it) = is_refusal it
says_no (Reported it) = is_no_report it

-- where the machine stands behind a request, and what it says; fields that are none are refused
abbrev pub said_to : State → Result Request Refusal → State × Said
said_to s (Ok (Command told)) = ((step batch_size s told).0, Replied (step batch_size s told).1)
said_to s (Ok (Question asked)) = (s, Reported (report s asked))
said_to s (Err why) = (s, Replied (reply.Refused why))

-- it carries out a command
abbrev pub is_order : Result Request Refusal → Bool
is_order (Ok (Command told)) = true
is_order (Ok (Question asked)) = false
is_order (Err why) = false

-- it asks a question, which alone a report answers
abbrev pub is_question : Result Request Refusal → Bool
is_question (Ok (Command told)) = false
is_question (Ok (Question asked)) = true
is_question (Err why) = false

abbrev pub is_report : Said → Bool
is_report (Replied it) = false
is_report (Reported it) = true

-- the tables that a fault, or a crash as the call returns, leaves: those of a command that was interrupted, or the same
abbrev pub IsCutIn : Result Request Refusal → State → State → Type 0
IsCutIn (Ok (Command told)) before left = IsInterrupted told before left
IsCutIn (Ok (Question asked)) before left = left ≡ before
IsCutIn (Err why) before left = left ≡ before

-- How answering ends: at a fault the agency has stopped, and else it goes on as before. Fields that are no request meet no fault, and leave
-- it as it is, as each request does an agency that had stopped.
pub record EndsFor {S X : Type 0} (g : Ghosts S) (old new : AgencyView S) (request : Result Request Refusal) (result : Result X Fault) : Type 0 where
  pub goes_on : OnOk result (new.is_stopped ≡ old.is_stopped)
  pub stops : OnErr result (new.is_stopped ≡ true)
  pub cause : old.is_stopped ≡ false → IfErr result IsFirstFault
  pub bad : OnErr request (IsOk result × (new ≡ old))
  pub stopped : old.is_stopped ≡ true → IfErr result (λ it. it ≡ fault.Stopped) × (new ≡ old)
  pub was_clean : WasClean g old new

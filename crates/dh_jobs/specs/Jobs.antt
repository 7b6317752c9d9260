-- What each job over an agency's tables comes to.
use Rattle.std.specs.Prelude.{◌≡◌, ◌⊎◌, ℕ, Bool, true, false, if◌then◌else◌, nat_lt, List, Option, Some, None, Ok}
use Rattle.sqlite.specs.State as conn
use Rattle.dh_types.specs.declared.command.Command.TheVariants as command
use Rattle.dh_types.specs.declared.command.RunOrder.{RunOrder}
use Rattle.dh_types.specs.declared.reply.Reply.TheVariants as reply
use Rattle.dh_types.specs.declared.reply.Refusal.TheVariants as refusal
use Rattle.dh_types.specs.Reports.{Report, NoReport}
use Rattle.dh_model.specs.Books.{State}
use Rattle.dh_agency.specs.Store as store
use Rattle.dh_agency.specs.Agency.{stand_of}
use Rattle.dh_agency.specs.Requests.{IsCutIn, Said, Replied, said_to, says_no}
use Rattle.dh_types.specs.declared.request.Request.{Request}
use Rattle.dh_types.specs.declared.request.Request.TheVariants.{Command}
use Rattle.dh_fields.specs.Lines.{Fields}
use Rattle.dh_lines.specs.Session.{Answered, lines_from, refused_in, state_after}
use Rattle.dh_jobs.specs.declared.jobs.Work.{Work}
use Rattle.dh_jobs.specs.declared.jobs.Work.TheVariants as work
use Rattle.dh_jobs.specs.Texts.{said_lines}

-- where the machine stands with the tables that a connection reads
abbrev pub stand_in : conn.State → State
stand_in s = stand_of (store.tables s)

-- so the question for the run of any month is answered where a run is open, and only there
abbrev pub says_open : Report → Bool
says_open (NoReport (refusal.RunOpen month)) = true
says_open _ = false

-- ---- lines

abbrev pub lines_answered : State → List Fields → Answered
lines_answered s rows = record { state = state_after s rows; text = lines_from 1 s rows; is_refused = nat_lt 0 (refused_in s rows) }

-- ---- a request

-- where the machine then stands, and what is printed
abbrev pub answered_so : State × Said → Answered
answered_so after = record { state = after.0; text = said_lines after.1; is_refused = says_no after.1 }

-- a run is opened
abbrev pub is_opened : Said → Bool
is_opened (Replied (reply.Opened month)) = true
is_opened _ = false

-- so many batches are posted behind the reply that a run is opened, and none behind another
abbrev pub posted_behind : Option ℕ → State × Said → State × Said
posted_behind None after = after
posted_behind (Some count) after = if is_opened after.1 then said_to after.0 (Ok (Command (command.Post count))) else after

abbrev pub said_in_parts : State → Request → Option ℕ → State × Said
said_in_parts s request batches = posted_behind batches (said_to s (Ok request))

-- A request was interrupted; or a run was opened, and over tables with which the machine then stands there the posting was.
abbrev pub IsAskCut : State → Request → Option ℕ → State → Type 0
IsAskCut before request None left = IsCutIn (Ok request) before left
IsAskCut before request (Some count) left =
    let opened = said_to (stand_of before) (Ok request) in
    IsCutIn (Ok request) before left
    ⊎ ((is_opened opened.1 ≡ true) × (mid : State) × (stand_of mid ≡ opened.0) × IsCutIn (Ok (Command (command.Post count))) mid left)

-- a month's run, in one step or in parts
abbrev pub run_work : RunOrder → Option ℕ → Work
run_work order None = work.Ask (Command (command.Run order)) None
run_work order (Some count) = work.Ask (Command (command.Open order)) (Some count)

-- What serving a request does to an agency, and what was written.
use Rattle.std.specs.Prelude.{◌≡◌, ◌≢◌, ◌⊎◌, ℕ, true, false, List, Option, Result, Ok, Err, IsOk}
use Rattle.std.specs.Io.KnownBytes.{Appends}
use Rattle.sqlite.specs.Store.{Ghosts}
use Rattle.dh_types.specs.Output.{BreaksOff}
use Rattle.dh_types.specs.declared.reply.Fault.{Fault}
use Rattle.dh_types.specs.declared.reply.Fault.TheVariants as fault
use Rattle.dh_model.specs.Books.{State}
use Rattle.dh_agency.specs.Faults.{IsFirstFault}
use Rattle.dh_agency.specs.AgencyView.{AgencyView}
use Rattle.dh_agency.specs.Agency.{IsOpen, Leaves, machine, stand}
use Rattle.dh_agency.specs.Requests.{IsCutIn, Said, Replied, Reported, is_order, said_to}
use Rattle.dh_requests.specs.declared.judged_request.JudgedRequest.{JudgedRequest}
use Rattle.dh_requests.specs.declared.judged_request.JudgedRequest.TheVariants.{Turned, Fields}
use Rattle.dh_http.specs.declared.fault.NetFault.{NetFault}
use Rattle.dh_http.specs.declared.fault.NetFault.TheVariants.{Closed, Input, Output, Memory}
use Rattle.dh_reading.specs.declared.unread.Unread.{Unread}
use Rattle.dh_reading.specs.declared.unread.Unread.TheVariants as unread
use Rattle.dh_http.specs.Answers.{Answer, answer_text, fault_answer, reply_answer, report_answer, turned_answer}

-- what a request is answered, and where the machine stands then
pub record Served : Type 0 where
  pub state : State
  pub answer : Answer

abbrev pub said_answer : Said → Answer
said_answer (Replied it) = reply_answer it
said_answer (Reported it) = report_answer it

abbrev pub served : State → JudgedRequest → Served
served s (Turned why) = record { state = s; answer = turned_answer why }
served s (Fields request) = record { state = (said_to s request).0; answer = said_answer (said_to s request).1 }

-- the request carries out a command
abbrev pub IsOrder : JudgedRequest → Type 0
IsOrder (Fields request) = is_order request ≡ true
IsOrder (Turned why) = ⊥

-- it is put to the agency: a command or a question, and no request that is turned away or refused for a field
abbrev pub IsPut : JudgedRequest → Type 0
IsPut (Fields request) = IsOk request
IsPut (Turned why) = ⊥

-- The tables that a fault leaves: those of a command that was interrupted, or the same where nothing was to be changed.
abbrev pub IsLeftBy : JudgedRequest → State → State → Type 0
IsLeftBy (Fields request) before left = IsCutIn request before left
IsLeftBy (Turned why) before left = left ≡ before

-- an agency that goes on meets a first fault, and one that has stopped says so
abbrev pub IsFaultOf : {S : Type 0} → AgencyView S → Fault → Type 0
IsFaultOf old it = (old.is_stopped ≡ false → IsFirstFault it) × (old.is_stopped ≡ true → it ≡ fault.Stopped)

-- where no request was read nothing was carried out
abbrev pub unread_fault : Unread → NetFault
unread_fault (unread.Input failed) = Input failed
unread_fault unread.Memory = Memory false

module _ {S : Type 0} (g : Ghosts S) (old new : AgencyView S) where
  -- The request was answered, and the machine stands where the answer says: one that was not put to the agency leaves it as it is. Or it was put
  -- to the agency, a fault was told, and the agency has stopped.
  pub data IsServed (asked : JudgedRequest) (status : ℕ) (Writes : List ℕ → Type 0) : Type 0 where
    Responded : Writes (answer_text (served (stand g old) asked).answer) → stand g new ≡ (served (stand g old) asked).state
        → (¬ IsPut asked → new ≡ old) → status ≡ (served (stand g old) asked).answer.status → IsServed asked status Writes
    Faulted : (fault : Fault) → IsPut asked → Writes (answer_text (fault_answer fault)) → IsFaultOf old fault → new.is_stopped ≡ true
        → (IsOpen g new → IsLeftBy asked (machine g old) (machine g new)) → status ≡ 503 → IsServed asked status Writes

  -- What the result says, where requests may be asked so. After `Memory` nothing is written, and it tells whether the machine's step
  -- was made.
  abbrev pub Serves : (JudgedRequest → Type 0) → Option (List ℕ) → Option (List ℕ) → Result ℕ NetFault → Type 0
  Serves May a b (Ok status) = (asked : JudgedRequest) × May asked × IsServed asked status (Appends a b)
  Serves May a b (Err (Output failed)) = (asked : JudgedRequest) × (status : ℕ) × May asked × IsServed asked status (BreaksOff a b)
  Serves May a b (Err Closed) = (b ≡ a) × (new ≡ old)
  Serves May a b (Err (Input failed)) = (b ≡ a) × (new ≡ old)
  Serves May a b (Err (Memory true)) =
      (asked : JudgedRequest) × May asked × (b ≡ a) × IsOrder asked × (stand g new ≡ (served (stand g old) asked).state)
  Serves May a b (Err (Memory false)) = (b ≡ a) × (machine g new ≡ machine g old)

  -- a crash leaves the tables as they were, or those of a command that is asked for and cut
  abbrev pub LeavesServed : (JudgedRequest → Type 0) → Type 0
  LeavesServed May = Leaves g new (λ left. (left ≡ machine g old) ⊎ ((asked : JudgedRequest) × May asked × IsLeftBy asked (machine g old) left))

-- the agency goes on as it did; or it has stopped, which an answer 503 tells, or the beginning of one
module _ {S : Type 0} (old new : AgencyView S) where
  abbrev pub StopsBy : Result ℕ NetFault → Type 0
  StopsBy (Ok status) = ((status ≢ 503) × (new.is_stopped ≡ old.is_stopped)) ⊎ ((status ≡ 503) × (new.is_stopped ≡ true))
  StopsBy (Err (Output failed)) = (new.is_stopped ≡ old.is_stopped) ⊎ (new.is_stopped ≡ true)
  StopsBy (Err Closed) = new.is_stopped ≡ old.is_stopped
  StopsBy (Err (Input failed)) = new.is_stopped ≡ old.is_stopped
  StopsBy (Err (Memory acted)) = new.is_stopped ≡ old.is_stopped

-- What a crash leaves as the serving of connections ends, whatever peers sent, and what is told of each connection.
use Rattle.std.specs.Prelude.{◌≡◌, ℕ, Bool, true, false, ⊤, List, [], ◌∷◌, ◌++◌, Option, Some, None, IfSome, Result, Ok, Err}
use Rattle.std.specs.Net.Addr.{ipv4_octets}
use Rattle.std.specs.Net.Socket.{socket_ip}
use Rattle.std.specs.declared.net.ip_addr.IpAddr.TheVariants.{V4}
use Rattle.std.specs.declared.net.ipv4_addr.Ipv4Addr.{Ipv4Addr}
use Rattle.std.specs.declared.net.socket_addr.SocketAddr.{SocketAddr}
use Rattle.sqlite.specs.Store.{Ghosts}
use Rattle.dh_model.specs.Books.{State}
use Rattle.dh_model.specs.Runs.{batch_size}
use Rattle.dh_model.specs.Whole.{whole}
use Rattle.dh_agency.specs.AgencyView.{AgencyView}
use Rattle.dh_agency.specs.Agency.{IsClean, IsOpen, Leaves, LeavesItsTables, machine, stand}
use Rattle.dh_requests.specs.declared.judged_request.JudgedRequest.{JudgedRequest}
use Rattle.dh_requests.specs.Requests.{MayAsk}
use Rattle.dh_http.specs.declared.fault.NetFault.{NetFault}
use Rattle.dh_http.specs.declared.fault.NetFault.TheVariants.{Closed}
use Rattle.dh_http.specs.Served.{Serves, StopsBy, served}

-- What became of a connection: what was asked was answered; or it was dealt with, and its answer was lost; or nothing was dealt with.
pub data Contact : Type 0 where
  Answered : JudgedRequest → Contact
  AnswerLost : JudgedRequest → Contact
  Lost : Contact

-- where the machine stands behind it
abbrev pub state_behind : State → Contact → State
state_behind s (Answered it) = (served s it).state
state_behind s (AnswerLost it) = (served s it).state
state_behind s Lost = s

-- and behind several, one after the other
abbrev pub state_after : State → List Contact → State
state_after s [] = s
state_after s (it ∷ rest) = state_after (state_behind s it) rest

-- what is told of it: the status of its answer, if it was answered
abbrev pub outcome_of : State → Contact → Option ℕ
outcome_of s (Answered it) = Some (served s it).answer.status
outcome_of s (AnswerLost it) = None
outcome_of s Lost = None

abbrev pub outcomes_of : State → List Contact → List (Option ℕ)
outcomes_of s [] = []
outcomes_of s (it ∷ rest) = outcome_of s it ∷ outcomes_of (state_behind s it) rest

-- so an agency ends that meets a fault: with answer 503, or with an answer that was lost
abbrev pub IsHalt : Option ℕ → Type 0
IsHalt (Some status) = status ≡ 503
IsHalt None = ⊤

-- What was told is told of such contacts, and the machine stands behind them; or behind some contacts the agency has stopped, and more was told.
pub data AreOutcomes (s : State) (outcomes : List (Option ℕ)) (now : State) (is_stopped : Bool) : Type 0 where
  GoesOn : (contacts : List Contact) → outcomes ≡ outcomes_of s contacts → now ≡ state_after s contacts → is_stopped ≡ false
      → AreOutcomes s outcomes now is_stopped
  HasStopped : (contacts : List Contact) (halt : Option ℕ) (more : List (Option ℕ)) → outcomes ≡ outcomes_of s contacts ++ halt ∷ more → IsHalt halt
      → is_stopped ≡ true → AreOutcomes s outcomes now is_stopped

-- the whole of these books is the machine's behind some contacts
abbrev pub IsAfterSome : State → State → Type 0
IsAfterSome s left = (contacts : List Contact) × (whole batch_size left.books ≡ (state_after s contacts).books)

-- From where the machine stood, connections were served, and these outcomes told: the tables that can be read, and those that a crash leaves,
-- are the machine's behind some contacts.
pub record IsServing {S : Type 0} (g : Ghosts S) (s : State) (outcomes : List (Option ℕ)) (a : AgencyView S) : Type 0 where
  pub told : AreOutcomes s outcomes (stand g a) a.is_stopped
  pub reads : IsOpen g a → IsAfterSome s (machine g a)
  pub left : Leaves g a (IsAfterSome s)
  pub rests : a.is_stopped ≡ false → LeavesItsTables g a

-- an agency that was serving has served more
abbrev pub ServesOn : {S : Type 0} → Ghosts S → AgencyView S → AgencyView S → List (Option ℕ) → Type 0
ServesOn g old new outcomes =
    (s : State) (before : List (Option ℕ)) → (IsClean g old → IsServing g s before old) → IsClean g new → IsServing g s (before ++ outcomes) new

-- what is told of a connection whose exchange ended so
abbrev pub outcome_by_end : Result ℕ NetFault → Option ℕ
outcome_by_end (Ok status) = Some status
outcome_by_end (Err why) = None

-- This is told of a connection: its exchange ended somehow, and a status that is told is that of the answer to what was read, which was written.
pub record IsOutcome {S : Type 0} (g : Ghosts S) (old new : AgencyView S) (input a b : Option (List ℕ)) (told : Option ℕ) : Type 0 where
  pub end : Result ℕ NetFault
  pub is : told ≡ outcome_by_end end
  pub serves : IsClean g new → Serves g old new (λ asked. IfSome input (λ bytes. MayAsk bytes asked)) a b end
  pub closed : end ≡ Err Closed → IfSome input (λ bytes. bytes ≡ [])
  pub stops : StopsBy old new end

-- An answer tells whether the agency has stopped: 503 exactly then. Of a connection that was lost nothing is told.
abbrev pub StopsWith : {S : Type 0} → AgencyView S → AgencyView S → Option ℕ → Type 0
StopsWith old new (Some status) = StopsBy old new (Ok status)
StopsWith old new None = ⊤

-- the address is 127.0.0.1, which no other machine can reach
abbrev pub IsOfThisMachine : SocketAddr → Type 0
IsOfThisMachine address = (ip : Ipv4Addr) × (socket_ip address ≡ V4 ip) × (ipv4_octets ip ≡ 127 ∷ 0 ∷ 0 ∷ 1 ∷ [])

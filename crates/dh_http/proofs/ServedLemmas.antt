-- What serving comes to, from what the agency's call and the writing of the answer give.
use Rattle.std.proofs.Common.{◌≡◌, ◌≢◌, ◌∙◌, ◌⊎◌, [], ℕ, ap, Bool, true, false, List, Option, Some, None, IfSome, Result, Ok, Err, inl, inr, refl, subst, sym}
use Rattle.std.specs.Prelude.{IfOk, MatchOption}
use Rattle.sqlite.specs.Store.{Ghosts}
use Rattle.dh_types.specs.declared.reply.Fault.{Fault}
use Rattle.dh_types.specs.declared.reply.Fault.TheVariants as faults
use Rattle.dh_model.specs.Books.{State}
use Rattle.dh_agency.specs.Faults.{IsFirstFault}
use Rattle.dh_agency.specs.AgencyView.{AgencyView}
use Rattle.dh_agency.specs.Agency.{IsOpen, Leaves, machine, stand}
use Rattle.dh_agency.proofs.Standing.{leaves_more}
use Rattle.dh_requests.specs.Requests.{MayAsk}
use Rattle.dh_requests.specs.declared.judged_request.JudgedRequest.{JudgedRequest}
use Rattle.dh_http.specs.declared.fault.NetFault.{NetFault}
use Rattle.dh_http.specs.declared.fault.NetFault.TheVariants.{Closed, Input, Output, Memory}
use Rattle.dh_http.specs.declared.answers.Response.{Response}
use Rattle.dh_http.specs.Answers.{Answer, Sends, Writes, fault_answer, said}
use Rattle.dh_http.specs.Served.{IsFaultOf, IsLeftBy, IsOrder, IsPut, IsServed, LeavesServed, Serves, StopsBy, served}

module _ {S : Type 0} (g : Ghosts S) (old new : AgencyView S) (a b : Option (List ℕ)) (May : JudgedRequest → Type 0) (asked : JudgedRequest) (may : May asked)
  where
    -- an answer
    pub serves_sent : (it : Answer) (result : Result ℕ NetFault) → Writes a b it result → it ≡ (served (stand g old) asked).answer
        → stand g new ≡ (served (stand g old) asked).state → (¬ IsPut asked → new ≡ old) → Serves g old new May a b result
    serves_sent it (Ok status) sends is state kept =
        let whole = subst (λ x. Writes a b x (Ok status)) is sends in (asked, may, IsServed.Responded whole.0 state kept whole.1)
    serves_sent it (Err (Output failed)) sends is state kept =
        let broken = subst (λ x. Writes a b x (Err (Output failed))) is sends in
        (asked, (served (stand g old) asked).answer.status, may, IsServed.Responded broken state kept refl)
    serves_sent it (Err Closed) sends is state kept = absurd sends
    serves_sent it (Err (Input failed)) sends is state kept = absurd sends
    serves_sent it (Err (Memory acted)) sends is state kept = absurd sends

    -- an answer that may want memory; before that the machine's step was made or not
    pub serves_made : {E : Type 0} (acted : Bool) (it : Answer) (made : Result Response E) (result : Result ℕ NetFault) → Sends a b acted made result
        → IfOk made (λ x. said x ≡ it) → it ≡ (served (stand g old) asked).answer → stand g new ≡ (served (stand g old) asked).state
        → (acted ≡ true → IsOrder asked) → (acted ≡ false → machine g new ≡ machine g old) → (¬ IsPut asked → new ≡ old) → Serves g old new May a b result
    serves_made acted it (Ok x) result sends says is state order same kept = serves_sent (said x) result sends (says ∙ is) state kept
    serves_made true it (Err e) result sends says is state order same kept =
        subst (Serves g old new May a b) (sym sends.1) (asked, may, sends.0, order refl, state)
    serves_made false it (Err e) result sends says is state order same kept = subst (Serves g old new May a b) (sym sends.1) (sends.0, same refl)

    -- a fault
    pub serves_fault : IsPut asked → (fault : Fault) (it : Answer) (result : Result ℕ NetFault) → Writes a b it result → it ≡ fault_answer fault
        → IsFaultOf old fault → new.is_stopped ≡ true → (IsOpen g new → IsLeftBy asked (machine g old) (machine g new)) → Serves g old new May a b result
    serves_fault put fault it (Ok status) sends told is stopped left =
        let whole = subst (λ x. Writes a b x (Ok status)) told sends in (asked, may, IsServed.Faulted fault put whole.0 is stopped left whole.1)
    serves_fault put fault it (Err (Output failed)) sends told is stopped left =
        let broken = subst (λ x. Writes a b x (Err (Output failed))) told sends in (asked, 503, may, IsServed.Faulted fault put broken is stopped left refl)
    serves_fault put fault it (Err Closed) sends told is stopped left = absurd sends
    serves_fault put fault it (Err (Input failed)) sends told is stopped left = absurd sends
    serves_fault put fault it (Err (Memory acted)) sends told is stopped left = absurd sends

-- ---- whether the agency has stopped
module _ {S : Type 0} (old new : AgencyView S) (a b : Option (List ℕ)) (it : Answer) where
  pub stops_fault : (fault : Fault) (result : Result ℕ NetFault) → Writes a b it result → it ≡ fault_answer fault → new.is_stopped ≡ true
      → StopsBy old new result
  stops_fault fault (Ok status) sends told stopped = inr (sends.1 ∙ ap (λ (z : Answer). z.status) told, stopped)
  stops_fault fault (Err (Output failed)) sends told stopped = inr stopped
  stops_fault fault (Err Closed) sends told stopped = absurd sends
  stops_fault fault (Err (Input failed)) sends told stopped = absurd sends
  stops_fault fault (Err (Memory acted)) sends told stopped = absurd sends

  pub goes_on_sent : (result : Result ℕ NetFault) → Writes a b it result → it.status ≢ 503 → new.is_stopped ≡ old.is_stopped → StopsBy old new result
  goes_on_sent (Ok status) sends other same = inl (λ e. other (sym sends.1 ∙ e), same)
  goes_on_sent (Err (Output failed)) sends other same = inl same
  goes_on_sent (Err Closed) sends other same = absurd sends
  goes_on_sent (Err (Input failed)) sends other same = absurd sends
  goes_on_sent (Err (Memory acted)) sends other same = absurd sends

pub goes_on_made : {S E : Type 0} (old new : AgencyView S) (a b : Option (List ℕ)) (it : Answer) (acted : Bool) (made : Result Response E)
    (result : Result ℕ NetFault) → Sends a b acted made result → IfOk made (λ x. said x ≡ it) → it.status ≢ 503
    → new.is_stopped ≡ old.is_stopped → StopsBy old new result
goes_on_made old new a b it acted (Ok x) result sends says other same =
    goes_on_sent old new a b (said x) result sends (λ e. other (sym (ap (λ (z : Answer). z.status) says) ∙ e)) same
goes_on_made old new a b it acted (Err e) result sends says other same = subst (StopsBy old new) (sym sends.1) same

-- ---- what a crash leaves
module _ {S : Type 0} (g : Ghosts S) (old new : AgencyView S) (May : JudgedRequest → Type 0) where
  pub leaves_asked : (asked : JudgedRequest) → May asked → Leaves g new (IsLeftBy asked (machine g old)) → LeavesServed g old new May
  leaves_asked asked may h = leaves_more g new (IsLeftBy asked (machine g old)) _ left_by h
    where
      left_by : (left : State) → IsLeftBy asked (machine g old) left → (left ≡ machine g old)
          ⊎ ((it : JudgedRequest) × May it × IsLeftBy it (machine g old) left)
      left_by left is = inr (asked, may, is)

-- ---- where requests may be asked otherwise too
module _ {S : Type 0} (g : Ghosts S) (old new : AgencyView S) (P Q : JudgedRequest → Type 0) (f : (asked : JudgedRequest) → P asked → Q asked) where
  pub serves_more : (a b : Option (List ℕ)) (r : Result ℕ NetFault) → Serves g old new P a b r → Serves g old new Q a b r
  serves_more a b (Ok status) h = (h.0, f h.0 h.1, h.2)
  serves_more a b (Err (Output failed)) h = (h.0, h.1, f h.0 h.2, h.3)
  serves_more a b (Err Closed) h = h
  serves_more a b (Err (Input failed)) h = h
  serves_more a b (Err (Memory true)) h = (h.0, f h.0 h.1, h.2, h.3, h.4)
  serves_more a b (Err (Memory false)) h = h

  pub leaves_served_more : LeavesServed g old new P → LeavesServed g old new Q
  leaves_served_more h = leaves_more g new _ _ more h
    where
      more : (left : State) → (left ≡ machine g old) ⊎ ((asked : JudgedRequest) × P asked × IsLeftBy asked (machine g old) left)
          → (left ≡ machine g old) ⊎ ((asked : JudgedRequest) × Q asked × IsLeftBy asked (machine g old) left)
      more left (inl same) = inl same
      more left (inr x) = inr (x.0, f x.0 x.1, x.2)

-- what was read may be asked
pub may_of : (input : Option (List ℕ)) (found : Option JudgedRequest) (asked : JudgedRequest) → found ≡ Some asked
    → IfSome input (λ bytes. MatchOption found (bytes ≡ []) (λ it. MayAsk bytes it)) → IfSome input (λ bytes. MayAsk bytes asked)
may_of None found asked is h = tt
may_of (Some bytes) found asked is h = subst (λ o. MatchOption o (bytes ≡ []) (λ it. MayAsk bytes it)) is h

-- One connection more.
use Rattle.std.proofs.Common.{◌≡◌, ◌∙◌, ◌⊎◌, ◌++◌, [], ◌∷◌, ℕ, Bool, true, false, List, Option, Some, None, Result, Ok, Err, ap, append_assoc}
use Rattle.std.proofs.Common.{append-nil, inl, inr, refl, subst, sym}
use Rattle.std.specs.Io.KnownBytes.{Appends}
use Rattle.sqlite.specs.Store.{Ghosts}
use Rattle.dh_types.specs.Output.{BreaksOff}
use Rattle.dh_model.specs.Books.{State}
use Rattle.dh_model.specs.Runs.{batch_size}
use Rattle.dh_model.specs.Whole.{whole}
use Rattle.dh_agency.specs.AgencyView.{AgencyView}
use Rattle.dh_agency.specs.Agency.{IsOpen, Leaves, LeavesItsTables, machine, stand, stand_of}
use Rattle.dh_agency.proofs.Standing.{leaves_more, leaves_what_holds}
use Rattle.dh_types.specs.declared.request.Request.TheVariants.{Command as Ordered, Question}
use Rattle.dh_requests.specs.declared.judged_request.JudgedRequest.{JudgedRequest}
use Rattle.dh_requests.specs.declared.judged_request.JudgedRequest.TheVariants.{Turned, Fields}
use Rattle.dh_http.specs.declared.fault.NetFault.{NetFault}
use Rattle.dh_http.specs.declared.fault.NetFault.TheVariants.{Closed, Input, Output, Memory}
use Rattle.dh_http.specs.Served.{IsLeftBy, IsServed, LeavesServed, Serves, StopsBy, served}
use Rattle.dh_http.specs.Service.{AnswerLost, Answered, AreOutcomes, Contact, IsAfterSome, IsHalt, IsServing, Lost, ServesOn, outcome_of}
use Rattle.dh_http.specs.Service.{outcome_by_end, outcomes_of, state_after, state_behind}

-- ---- one contact more

pub after_more : (s : State) (contacts : List Contact) (it : Contact) → state_after s (contacts ++ it ∷ []) ≡ state_behind (state_after s contacts) it
after_more s [] it = refl
after_more s (first ∷ contacts) it = after_more (state_behind s first) contacts it

pub outcomes_more : (s : State) (contacts : List Contact) (it : Contact)
    → outcomes_of s (contacts ++ it ∷ []) ≡ outcomes_of s contacts ++ outcome_of (state_after s contacts) it ∷ []
outcomes_more s [] it = refl
outcomes_more s (first ∷ contacts) it = ap (λ l. outcome_of s first ∷ l) (outcomes_more (state_behind s first) contacts it)

module _ {S : Type 0} (g : Ghosts S) (s : State) (before : List (Option ℕ)) (old : AgencyView S) (contacts : List Contact)
    (are : before ≡ outcomes_of s contacts) (stands : stand g old ≡ state_after s contacts) where
  next_state : (it : Contact) (t : State) → t ≡ state_behind (stand g old) it → t ≡ state_after s (contacts ++ it ∷ [])
  next_state it t is = is ∙ ap (λ z. state_behind z it) stands ∙ sym (after_more s contacts it)

  next_outcomes : (it : Contact) (outcome : Option ℕ) → outcome ≡ outcome_of (stand g old) it
      → before ++ outcome ∷ [] ≡ outcomes_of s (contacts ++ it ∷ [])
  next_outcomes it outcome is =
      ap (λ l. l ++ outcome ∷ []) are ∙ ap (λ o. outcomes_of s contacts ++ o ∷ []) (is ∙ ap (λ z. outcome_of z it) stands)
      ∙ sym (outcomes_more s contacts it)

  -- the tables as they were
  same_some : (left : State) → left ≡ machine g old → IsAfterSome s left
  same_some left is = (contacts, ap (λ (t : State). whole batch_size t.books) is ∙ ap (λ (t : State). t.books) stands)

  -- those of a command that is interrupted
  left_some : (it : JudgedRequest) (left : State) → IsLeftBy it (machine g old) left → IsAfterSome s left
  left_some (Fields (Ok (Ordered command))) left (inl undone) = (contacts, undone.books ∙ ap (λ (t : State). t.books) stands)
  left_some (Fields (Ok (Ordered command))) left (inr done) =
      let it : Contact = AnswerLost (Fields (Ok (Ordered command))) in
      (contacts ++ it ∷ [], done.books ∙ ap (λ (t : State). t.books) (next_state it (state_behind (stand g old) it) refl))
  left_some (Fields (Ok (Question question))) left is = same_some left is
  left_some (Fields (Err why)) left is = same_some left is
  left_some (Turned why) left is = same_some left is

  crash_some : (new : AgencyView S) (May : JudgedRequest → Type 0) → LeavesServed g old new May → Leaves g new (IsAfterSome s)
  crash_some new May h = leaves_more g new _ (IsAfterSome s) some h
    where
      some : (left : State) → (left ≡ machine g old) ⊎ ((it : JudgedRequest) × May it × IsLeftBy it (machine g old) left) → IsAfterSome s left
      some left (inl is) = same_some left is
      some left (inr x) = left_some x.0 left x.2

  module _ (live : old.is_stopped ≡ false) (new : AgencyView S) (rests : new.is_stopped ≡ false → LeavesItsTables g new) (left : Leaves g new (IsAfterSome s))
    where
      -- the agency goes on
      goes_on : (it : Contact) (outcome : Option ℕ) → outcome ≡ outcome_of (stand g old) it → stand g new ≡ state_behind (stand g old) it
          → new.is_stopped ≡ false → IsServing g s (before ++ outcome ∷ []) new
      goes_on it outcome told is goes =
          let after = next_state it (stand g new) is in
          record {
            told = AreOutcomes.GoesOn (contacts ++ it ∷ []) (next_outcomes it outcome told) after goes;
            reads = λ is_open. (contacts ++ it ∷ [], ap (λ (t : State). t.books) after);
            left = left;
            rests = rests;
          }

      -- it has stopped
      halts : (outcome : Option ℕ) → IsHalt outcome → new.is_stopped ≡ true → (IsOpen g new → IsAfterSome s (machine g new))
          → IsServing g s (before ++ outcome ∷ []) new
      halts outcome halt stopped reads = record {
        told = AreOutcomes.HasStopped contacts outcome [] (ap (λ l. l ++ outcome ∷ []) are) halt stopped;
        reads = reads;
        left = left;
        rests = rests;
      }

      reads_on : (it : JudgedRequest) → stand g new ≡ (served (stand g old) it).state → IsAfterSome s (machine g new)
      reads_on it is = (contacts ++ AnswerLost it ∷ [], ap (λ (t : State). t.books) (next_state (AnswerLost it) (stand g new) is))

      by_answer : (it : JudgedRequest) (status : ℕ) (Writes : List ℕ → Type 0) → IsServed g old new it status Writes → StopsBy old new (Ok status)
          → IsServing g s (before ++ Some status ∷ []) new
      by_answer it status Writes (IsServed.Responded written state kept is) (inl on) = goes_on (Answered it) (Some status) (ap Some is) state (on.1 ∙ live)
      by_answer it status Writes (IsServed.Responded written state kept is) (inr at) = halts (Some status) at.0 at.1 (λ is_open. reads_on it state)
      by_answer it status Writes (IsServed.Faulted fault put written is stopped reads told) stops =
          halts (Some status) told stopped (λ is_open. left_some it (machine g new) (reads is_open))

      by_lost_answer : (it : JudgedRequest) (status : ℕ) (Writes : List ℕ → Type 0) → IsServed g old new it status Writes
          → IsServing g s (before ++ None ∷ []) new
      by_lost_answer it status Writes (IsServed.Responded written state kept is) = by new.is_stopped refl
        where
          by : (v : Bool) → new.is_stopped ≡ v → IsServing g s (before ++ None ∷ []) new
          by false goes = goes_on (AnswerLost it) None refl state goes
          by true stopped = halts None tt stopped (λ is_open. reads_on it state)
      by_lost_answer it status Writes (IsServed.Faulted fault put written is stopped reads told) =
          halts None tt stopped (λ is_open. left_some it (machine g new) (reads is_open))

      same_as : new ≡ old → IsServing g s (before ++ None ∷ []) new
      same_as is = goes_on Lost None refl (ap (stand g) is) (ap (λ (a : AgencyView S). a.is_stopped) is ∙ live)

      by_result : (May : JudgedRequest → Type 0) (a b : Option (List ℕ)) (r : Result ℕ NetFault) → Serves g old new May a b r → StopsBy old new r
          → IsServing g s (before ++ outcome_by_end r ∷ []) new
      by_result May a b (Ok status) h stops = by_answer h.0 status (Appends a b) h.2 stops
      by_result May a b (Err (Output failed)) h stops = by_lost_answer h.0 h.1 (BreaksOff a b) h.3
      by_result May a b (Err Closed) h stops = same_as h.1
      by_result May a b (Err (Input failed)) h stops = same_as h.1
      by_result May a b (Err (Memory true)) h stops = goes_on (AnswerLost h.0) None refl h.4 (stops ∙ live)
      by_result May a b (Err (Memory false)) h stops = goes_on Lost None refl (ap stand_of h.1) (stops ∙ live)

-- ---- from one connection to the next

-- an agency that has stopped tells more
halted_more : {S : Type 0} (g : Ghosts S) (s : State) (before : List (Option ℕ)) (a : AgencyView S) (contacts : List Contact) (halt outcome : Option ℕ)
    (more : List (Option ℕ)) → before ≡ outcomes_of s contacts ++ halt ∷ more → IsHalt halt → a.is_stopped ≡ true → IsServing g s before a
    → IsServing g s (before ++ outcome ∷ []) a
halted_more g s before a contacts halt outcome more are halts stopped was = record {
  told =
      AreOutcomes.HasStopped contacts halt (more ++ outcome ∷ [])
      (ap (λ l. l ++ outcome ∷ []) are ∙ append_assoc (outcomes_of s contacts) (halt ∷ more) (outcome ∷ [])) halts stopped;
  reads = was.reads;
  left = was.left;
  rests = was.rests;
}

-- a connection was lost before anything was asked
pub lost_more : {S : Type 0} (g : Ghosts S) (s : State) (before : List (Option ℕ)) (a : AgencyView S) → IsServing g s before a
    → IsServing g s (before ++ None ∷ []) a
lost_more g s before a was = by was.told
  where
    by : AreOutcomes s before (stand g a) a.is_stopped → IsServing g s (before ++ None ∷ []) a
    by (AreOutcomes.GoesOn contacts are stands live) = goes_on g s before a contacts are stands live a was.rests was.left Lost None refl refl live
    by (AreOutcomes.HasStopped contacts halt more are halts stopped) = halted_more g s before a contacts halt None more are halts stopped was

-- a request was served
pub serves_on : {S : Type 0} (g : Ghosts S) (s : State) (before : List (Option ℕ)) (old new : AgencyView S) (May : JudgedRequest → Type 0)
    (a b : Option (List ℕ))
    (r : Result ℕ NetFault) → Serves g old new May a b r → (old.is_stopped ≡ false → LeavesItsTables g old → LeavesServed g old new May)
    → (LeavesItsTables g old → new.is_stopped ≡ false → LeavesItsTables g new) → StopsBy old new r → (old.is_stopped ≡ true → new ≡ old)
    → IsServing g s before old → IsServing g s (before ++ outcome_by_end r ∷ []) new
serves_on g s before old new May a b r serves crash rests stops same was = by was.told
  where
    by : AreOutcomes s before (stand g old) old.is_stopped → IsServing g s (before ++ outcome_by_end r ∷ []) new
    by (AreOutcomes.GoesOn contacts are stands live) =
        let left = crash_some g s before old contacts are stands new May (crash live (was.rests live)) in
        by_result g s before old contacts are stands live new (rests (was.rests live)) left May a b r serves stops
    by (AreOutcomes.HasStopped contacts halt more are halts stopped) =
        subst (IsServing g s (before ++ outcome_by_end r ∷ [])) (sym (same stopped))
        (halted_more g s before old contacts halt (outcome_by_end r) more are halts stopped was)

-- ---- several connections

-- nothing was asked yet
pub begins : {S : Type 0} (g : Ghosts S) (a : AgencyView S) → a.is_stopped ≡ false → LeavesItsTables g a → IsServing g (stand g a) [] a
begins g a live rests = record {
  told = AreOutcomes.GoesOn [] refl refl live;
  reads = λ is_open. ([], refl);
  left = leaves_what_holds g a (IsAfterSome (stand g a)) rests ([], refl);
  rests = λ goes. rests;
}

pub serves_none : {S : Type 0} (g : Ghosts S) (a : AgencyView S) → ServesOn g a a []
serves_none g a s before was clean = subst (λ l. IsServing g s l a) (sym (append-nil before)) (was clean)

pub serves_lost : {S : Type 0} (g : Ghosts S) (a : AgencyView S) → ServesOn g a a (None ∷ [])
serves_lost g a s before was clean = lost_more g s before a (was clean)

pub serves_both : {S : Type 0} (g : Ghosts S) (old mid new : AgencyView S) (first second : List (Option ℕ)) → ServesOn g old mid first
    → ServesOn g mid new second
    → ServesOn g old new (first ++ second)
serves_both g old mid new first second one two s before was clean =
    subst (λ l. IsServing g s l new) (append_assoc before first second) (two s (before ++ first) (λ at. one s before was at) clean)

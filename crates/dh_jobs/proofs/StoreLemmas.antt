-- From an agency to the store that it is over.
use Rattle.std.proofs.Common.{◌≡◌, ◌⊎◌, ◌∙◌, inl, inr, Bool, ℕ, Option, Some, None, List, [], ◌∷◌, ◌++◌, refl, sym, ap, subst, arith, true, false}
use Rattle.std.specs.Prelude.{pos, IfSome, IsTrue, OnOk, Result, Ok, Err}
use Rattle.sqlite.specs.Store.{Ghosts}
use Rattle.sqlite.specs.State as conn
use Rattle.sqlite.specs.State.{HasCleanDisk}
use Rattle.sqlite.specs.Held.{Held, state}
use Rattle.sqlite.specs.Effect.{Database}
use Rattle.sqlite_trees.specs.Tree.{Trees}
use Rattle.dh_types.specs.declared.reply.Fault.{Fault}
use Rattle.dh_types.specs.declared.reply.Refusal.{Refusal}
use Rattle.dh_types.specs.declared.reply.Refusal.TheVariants as refusal
use Rattle.dh_types.specs.declared.version.Version.TheVariants.{First, Second}
use Rattle.dh_model.specs.Books.{State}
use Rattle.dh_laws.proofs.CommandLemmas.Carried.{same_cut}
use Rattle.dh_agency.specs.Faults.{IsFirstFault}
use Rattle.dh_agency.specs.Store as store
use Rattle.dh_agency.specs.Store.{Leaves}
use Rattle.dh_agency.specs.Tables.{IsSound, state_in}
use Rattle.dh_agency.specs.Problem.{Problem}
use Rattle.dh_agency.specs.Problem.TheVariants as problem
use Rattle.dh_agency.specs.Taking.{CanBeTaken, GivesVersion, IsFirstProblem, IsProblemOf, IsRefusedFor, LeavesAsTheyWere, ReadsAsItDid}
use Rattle.dh_agency.specs.Outcomes.{IsRecovered, IsMidRecovery}
use Rattle.dh_agency.specs.Moved.{IsMigrationProblem}
use Rattle.dh_agency.specs.Taken.{TakesAsTheyAre, TakesForward}
use Rattle.dh_agency.specs.AgencyView.{AgencyView}
use Rattle.dh_agency.specs.Agency.{IsClean, machine, shown_by, stand, stand_of}
use Rattle.dh_agency.specs.Requests.{IsCutIn, is_question}
use Rattle.dh_types.specs.declared.request.Request.{Request}
use Rattle.dh_types.specs.declared.request.Request.TheVariants.{Command, Question}
use Rattle.dh_lines.specs.Batch.{AreAfter}
use Rattle.dh_http.specs.declared.listener.Service.{Service}
use Rattle.dh_http.specs.declared.listener.Unserved.{Unserved}
use Rattle.dh_http.specs.declared.listener.Unserved.TheVariants as unserved
use Rattle.dh_http.specs.Printed.{Listened, PortUnprinted, PrintsServed, Unlistened, outcome_lines}
use Rattle.dh_http.specs.Service.{AreOutcomes, GoesOn, HasStopped, IsAfterSome, IsServing, outcomes_of}
use Rattle.dh_jobs.specs.Jobs.{IsAskCut, stand_in}
use Rattle.dh_jobs.specs.Leaving.{IsKept, ServingLeaves, TakingLeaves, WorkLeaves}
use Rattle.dh_jobs.specs.declared.jobs.Work.{Work}
use Rattle.dh_jobs.specs.declared.jobs.Work.TheVariants as work
use Rattle.dh_jobs.specs.declared.store_jobs.FileJob.{FileJob}
use Rattle.dh_jobs.specs.declared.store_jobs.FileJob.TheVariants as job
use Rattle.dh_jobs.specs.declared.status.Status.{Status}
use Rattle.dh_jobs.specs.declared.status.Status.TheVariants.{Done, SomeRefused, BadWords, Failed, RunOpen, FileRefused}
use Rattle.dh_jobs.specs.Statuses.{IsAnswered, IsFailed}
use Rattle.dh_jobs.specs.Texts.{refusal_line}
use Rattle.dh_jobs.specs.Printed.{Before, Behind, Closes, IsMigrationEnd, IsNotMigratedEnd, IsOfLines, IsRecoveryEnd, IsRefusedEnd}
use Rattle.dh_jobs.specs.Printed.{IsAskEnd, Prints}
use Rattle.dh_jobs.specs.Printed.{EndsByProblem, EndsBySomeFault, EndsServing, EndsWithoutListener, PrintsEnd, PrintsJob, PrintsService, PrintsWork, PutsAs}
use Rattle.dh_jobs.specs.Printed.{Served}
use Rattle.dh_jobs.specs.Printed.{Unclosed, Whole, Within}
use Rattle.dh_jobs.specs.Ends.{IsNotRecovered, IsNotRecoveredFor, IsServed, LinesEnd, RecoveryEnds, RecoveryEndsFor, StandsBy, WorkEnds}
use Rattle.dh_jobs.proofs.TextLemmas.{broken_failed, fault_told, tells_behind, told_behind, told_failed}

-- ---- what was printed

-- a text with its status, or a beginning of it
pub prints_as : (IsEnd : List ℕ → Status → Type 0) (text : List ℕ) (wanted : Status) (a b : Option (List ℕ)) (status : Status) → IsEnd text wanted
    → PutsAs text wanted a b status → Prints IsEnd a b status
prints_as IsEnd text wanted a b status ends (inl (is, h)) = Whole text (subst (IsEnd text) (sym is) ends) h
prints_as IsEnd text wanted a b status ends (inr h) = Within text wanted ends h

-- a problem: the file was refused, or a fault came
pub problem_prints : (problem : Problem) (a b : Option (List ℕ)) (status : Status) → IsFirstProblem problem → EndsByProblem problem a b status
    → Prints IsRefusedEnd a b status
problem_prints (problem.Refused why) a b status first h = prints_as IsRefusedEnd (refusal_line why) FileRefused a b status (why, first, refl, refl) h
problem_prints (problem.Fault fault) a b status first h = Before (fault_told a b fault status first h)

-- the same of a migration
pub not_migrated_prints : (problem : Problem) (a b : Option (List ℕ)) (status : Status) → IsMigrationProblem problem
    → EndsByProblem problem a b status
    → Prints IsNotMigratedEnd a b status
not_migrated_prints (problem.Refused why) a b status first h =
    prints_as IsNotMigratedEnd (refusal_line why) FileRefused a b status (why, first, refl, refl) h
not_migrated_prints (problem.Fault fault) a b status first h = Before (fault_told a b fault status first h)

-- what was told is no answer
pub unanswered : (problem : Problem) (a b : Option (List ℕ)) (status : Status) → EndsByProblem problem a b status → ¬ IsAnswered status
unanswered (problem.Refused why) a b status (inl h) answered = subst IsAnswered h.0 answered
unanswered (problem.Refused why) a b status (inr h) answered = subst IsAnswered h.1 answered
unanswered (problem.Fault fault) a b status h answered = subst IsAnswered h.failed answered

-- serving that was done ended without an error
pub served_whole : (result : Result (Unit {0}) Unserved) (a b : Option (List ℕ)) (status : Status) → EndsServing result a b status → IsAnswered status
    → {P : Type 0} → OnOk result P → P
served_whole (Ok done) a b status told answered h = h
served_whole (Err unserved.NoListener) a b status told answered h = absurd (subst IsAnswered told.1 answered)
served_whole (Err (unserved.Output output)) a b status told answered h = absurd (subst IsAnswered told.1 answered)
served_whole (Err unserved.Stopped) a b status told answered h = absurd (subst IsAnswered told.1 answered)
served_whole (Err (unserved.Fault fault)) a b status told answered h = absurd (subst IsAnswered told.failed answered)

-- ---- closing

module _ (IsEnd : List ℕ → Status → Type 0) (a m b : Option (List ℕ)) (before after : Status) where
  stays : (after ≡ before) × (b ≡ m) → Prints IsEnd a m before → Prints IsEnd a b after
  stays same h = subst (λ s. Prints IsEnd a b s) (sym same.0) (subst (λ o. Prints IsEnd a o before) (sym same.1) h)

  pub prints_closed : Prints IsEnd a m before → Closes m b before after → Prints IsEnd a b after
  prints_closed h (inl same) = stays same h
  prints_closed (Whole text ends h) (inr (fine, told)) = Behind text before ends (told_behind a m b text after h told)
  prints_closed (Within text last ends h) (inr (fine, told)) = absurd (fine (broken_failed text a m before h))
  prints_closed (Behind text last ends h) (inr (fine, told)) = absurd (fine (told_failed a m text h.fault before h.told))
  prints_closed (Before h) (inr (fine, told)) = absurd (fine (told_failed a m [] h.fault before h.told))

pub failed_of_lines : (status : Status) → IsFailed status → IsOfLines status
failed_of_lines (Failed why) failed = (λ is. is, λ is. cc)
failed_of_lines Done failed = absurd failed
failed_of_lines SomeRefused failed = absurd failed
failed_of_lines (BadWords outcome) failed = absurd failed
failed_of_lines RunOpen failed = absurd failed
failed_of_lines FileRefused failed = absurd failed

lines_closed : (m b : Option (List ℕ)) (before after : Status) → IsOfLines before → Closes m b before after → IsOfLines after
lines_closed m b before after h (inl same) = subst IsOfLines (sym same.0) h
lines_closed m b before after h (inr (fine, told)) = failed_of_lines after (told_failed m b [] told.fault after told.told)

-- ---- connections that were served

-- how serving ended is told behind the lines of the connections
pub serving_prints : (service : Service) (outcomes : List (Option ℕ)) (a m b : Option (List ℕ)) (result : Result (Unit {0}) Unserved) (status : Status)
    → ((fault : Fault) → result ≡ Err (unserved.Fault fault) → IsFirstFault fault)
    → PrintsServed service outcomes a m result → EndsServing result m b status → PrintsEnd service outcomes a b result status
serving_prints service outcomes a m b (Ok done) status first h (same, is) = (subst (λ o. PrintsServed service outcomes a o (Ok done)) (sym same) h, is)
serving_prints service outcomes a m b (Err unserved.NoListener) status first h told = by h
  where
    by : PrintsServed service outcomes a m (Err unserved.NoListener) → PrintsEnd service outcomes a b (Err unserved.NoListener) status
    by (Listened text port never) = absurd never
    by (PortUnprinted text port broken none failed is) = cc
    by (Unlistened same none is) = (none, subst (λ o. EndsWithoutListener o b status) same told)
serving_prints service outcomes a m b (Err (unserved.Output failed)) status first h (same, is) =
    (subst (λ o. PrintsServed service outcomes a o (Err (unserved.Output failed))) (sym same) h, is)
serving_prints service outcomes a m b (Err unserved.Stopped) status first h (same, is) =
    (subst (λ o. PrintsServed service outcomes a o (Err unserved.Stopped)) (sym same) h, is)
serving_prints service outcomes a m b (Err (unserved.Fault fault)) status first h told = by h
  where
    by : PrintsServed service outcomes a m (Err (unserved.Fault fault)) → PrintsEnd service outcomes a b (Err (unserved.Fault fault)) status
    by (Listened text port behind) = record {
      text = text;
      port = port;
      fewer = behind.0;
      first = first fault refl;
      told = tells_behind a m b (text ++ outcome_lines outcomes) fault status behind.1 told;
    }
    by (PortUnprinted text port broken none failed is) = cc
    by (Unlistened same none is) = cc

-- Where no connection was served the agency goes on.
no_end : {A : Type 0} (xs : List A) (y : A) (ys : List A) → [] ≡ xs ++ y ∷ ys → ⊥
no_end [] y ys is = cc
no_end (x ∷ xs) y ys is = cc

none_stops : (s : State) (outcomes : List (Option ℕ)) (now : State) (is_stopped : Bool) → outcomes ≡ [] → AreOutcomes s outcomes now is_stopped
    → is_stopped ≡ false
none_stops s outcomes now is_stopped none (GoesOn contacts told stands going) = going
none_stops s outcomes now is_stopped none (HasStopped contacts halt more told halts stopped) =
    absurd (no_end (outcomes_of s contacts) halt more (sym none ∙ told))

-- how serving ended says whether the agency goes on
module _ (service : Service) (outcomes : List (Option ℕ)) (a m b : Option (List ℕ)) (status : Status) (s now : State) (is_stopped : Bool) where
  pub stands_by : (result : Result (Unit {0}) Unserved) → OnOk result (is_stopped ≡ false) → (result ≡ Err unserved.Stopped → is_stopped ≡ true)
      → ((fault : Fault) → result ≡ Err (unserved.Fault fault) → (is_stopped ≡ false) × IsFirstFault fault)
      → PrintsServed service outcomes a m result → AreOutcomes s outcomes now is_stopped → EndsServing result m b status → StandsBy status is_stopped
  stands_by (Ok done) going stopped fault h told (same, is) = subst (λ it. StandsBy it is_stopped) (sym is) going
  stands_by (Err unserved.NoListener) going stopped fault h told said = subst (λ it. StandsBy it is_stopped) (sym said.1) (by h)
    where
      by : PrintsServed service outcomes a m (Err unserved.NoListener) → is_stopped ≡ false
      by (Listened text port never) = absurd never
      by (PortUnprinted text port broken none failed is) = cc
      by (Unlistened same none is) = none_stops s outcomes now is_stopped none told
  stands_by (Err (unserved.Output output)) going stopped fault h told (same, is) = subst (λ it. StandsBy it is_stopped) (sym is) tt
  stands_by (Err unserved.Stopped) going stopped fault h told (same, is) = subst (λ it. StandsBy it is_stopped) (sym is) (stopped refl)
  stands_by (Err (unserved.Fault why)) going stopped fault h told said = subst (λ it. StandsBy it is_stopped) (sym said.failed) (fault why refl).0

module _ (service : Service) (outcomes : List (Option ℕ)) (a m b : Option (List ℕ)) (before after : Status) where
  failed_end : (why : Unserved) → PrintsEnd service outcomes a m (Err why) before → IsFailed before
  failed_end unserved.NoListener (none, h) = subst IsFailed (sym h.1) tt
  failed_end (unserved.Output output) h = subst IsFailed (sym h.1) tt
  failed_end unserved.Stopped h = subst IsFailed (sym h.1) tt
  failed_end (unserved.Fault fault) h = told_failed a m (h.text ++ outcome_lines outcomes) fault before h.told

  unclosed : (done : Unit {0}) → PrintsServed service outcomes a m (Ok done) → EndsBySomeFault m b [] after → PrintsService service outcomes a b after
  unclosed done (Listened text port h) told = Unclosed text port h.0 (told_behind a m b (text ++ outcome_lines outcomes) after h.1 told)
  unclosed done (PortUnprinted text port broken none cause is) told = cc
  unclosed done (Unlistened same none is) told = cc

  service_closed : PrintsService service outcomes a m before → Closes m b before after → PrintsService service outcomes a b after
  service_closed h (inl same) =
      subst (λ s. PrintsService service outcomes a b s) (sym same.0) (subst (λ o. PrintsService service outcomes a o before) (sym same.1) h)
  service_closed (Served (Ok done) h) (inr (fine, told)) = unclosed done h.0 told
  service_closed (Served (Err why) h) (inr (fine, told)) = absurd (fine (failed_end why h))
  service_closed (Unclosed text port all h) (inr (fine, told)) =
      absurd (fine (told_failed a m (text ++ outcome_lines outcomes) h.fault before h.told))

module _ (a m b : Option (List ℕ)) (before after : Status) (closes : Closes m b before after) where
  work_closed : (it : Work) → PrintsWork it a m before → PrintsWork it a b after
  work_closed work.Lines h = lines_closed m b before after h closes
  work_closed (work.Ask request batches) h = prints_closed (IsAskEnd (is_question (Ok request))) a m b before after h closes

  refused_closed : Prints IsRefusedEnd a m before → Prints IsRefusedEnd a b after
  refused_closed h = prints_closed IsRefusedEnd a m b before after h closes

  pub job_closed : (it : FileJob) → PrintsJob it a m before → PrintsJob it a b after
  job_closed job.Recover (inl h) = inl (prints_closed IsRecoveryEnd a m b before after h closes)
  job_closed job.Recover (inr h) = inr (refused_closed h)
  job_closed job.Migrate (inl h) = inl (prints_closed IsMigrationEnd a m b before after h closes)
  job_closed job.Migrate (inr h) = inr (prints_closed IsNotMigratedEnd a m b before after h closes)
  job_closed (job.Work it) (inl h) = inl (work_closed it h)
  job_closed (job.Work it) (inr h) = inr (refused_closed h)
  job_closed (job.Serve service) (inl h) = inl (h.0, service_closed service h.0 a m b before after h.1 closes)
  job_closed (job.Serve service) (inr h) = inr (refused_closed h)

-- ---- the store behind an agency

-- a result has one error
pub same_error : {T E : Type 0} (r : Result T E) (x y : E) → r ≡ Err x → r ≡ Err y → x ≡ y
same_error (Ok it) x y is other = cc
same_error (Err e) x y is other = cc

module _ {S : Type 0} (g : Ghosts S) (after : AgencyView S) (last : Held S) (same : last ≡ after.conn) where
  pub was_clean : HasCleanDisk (state g last) → IsClean g after
  was_clean clean = subst (λ (h : Held S). HasCleanDisk (state g h)) same clean

  pub back : (P : conn.State → Type 0) → P (shown_by g after) → P (state g last)
  back P h = subst (λ (h : Held S). P (state g h)) (sym same) h

  pub kept_behind : (status : Status) → IsKept (shown_by g after) status → IsKept (state g last) status
  kept_behind status h = back (λ s. IsKept s status) h

  module _ (a b : Option (List ℕ)) (status : Status) where
    pub work_ends : (old : Held S) (taken : AgencyView S) → machine g taken ≡ store.tables (state g old) → (input : Option (List ℕ)) (it : Work)
        → WorkEnds (shown_by g after) after.is_stopped a b (machine g taken) input it status
        → WorkEnds (state g last) after.is_stopped a b (store.tables (state g old)) input it status
    work_ends old taken is input it h =
        subst (λ t. WorkEnds (state g last) after.is_stopped a b t input it status) is
        (back (λ new. WorkEnds new after.is_stopped a b (machine g taken) input it status) h)

    pub lines_end : (s : State) (made : AgencyView S) → stand g made ≡ s → (input : Option (List ℕ))
        → IfSome input (λ input. LinesEnd (shown_by g after) after.is_stopped a b (stand g made) input status)
        → IfSome input (λ input. LinesEnd (state g last) after.is_stopped a b s input status)
    lines_end s made is input h =
        subst (λ t. IfSome input (λ input. LinesEnd (state g last) after.is_stopped a b t input status)) is
        (back (λ new. IfSome input (λ input. LinesEnd new after.is_stopped a b (stand g made) input status)) h)

  -- connections were served
  module _ (old : Held S) (taken : AgencyView S) (is : machine g taken ≡ store.tables (state g old)) (outcomes : List (Option ℕ))
      (served : IsServing g (stand g taken) outcomes after) where
    pub serving_ends : (a b : Option (List ℕ)) (service : Service) (status : Status) → StandsBy status after.is_stopped
        → PrintsService service outcomes a b status → IsServed (state g old) (state g last) a b service status
    serving_ends a b service status stands printed = record {
      outcomes = outcomes;
      printed = printed;
      is_stopped = after.is_stopped;
      stands = stands;
      told =
          subst (λ t. AreOutcomes (stand_of t) outcomes (stand_in (state g last)) after.is_stopped) is
          (back (λ new. AreOutcomes (stand_of (machine g taken)) outcomes (stand_in new) after.is_stopped) served.told);
      reads =
          subst (λ t. IsTrue (state g last).is_open → IsAfterSome (stand_of t) (store.tables (state g last))) is
          (back (λ new. IsTrue new.is_open → IsAfterSome (stand_of (machine g taken)) (store.tables new)) served.reads);
    }

    pub serving_leaves : Leaves (state g last) (IsAfterSome (stand_of (store.tables (state g old))))
    serving_leaves =
        subst (λ t. Leaves (state g last) (IsAfterSome (stand_of t))) is
        (back (λ new. Leaves new (IsAfterSome (stand_of (machine g taken)))) served.left)

-- ---- tables that were not taken

-- a request that nothing came of
untold : (request : Request) (t : State) → IsCutIn (Ok request) t t
untold (Command told) t = same_cut told t t refl
untold (Question asked) t = refl

uncut : (request : Request) (batches : Option ℕ) (t : State) → IsAskCut t request batches t
uncut request None t = untold request t
uncut request (Some count) t = inl (untold request t)

module _ (old new : conn.State) (h : LeavesAsTheyWere old new) (sound : IsSound old.now.trees) where
  same_leaves : (P : State → Type 0) → P (store.tables old) → Leaves new P
  same_leaves P p left may = subst (λ (t : Trees). IsSound t × P (state_in t)) (sym (h left may)) (sound, p)

  work_kept : (it : Work) → WorkLeaves new (store.tables old) it
  work_kept work.Lines =
      let s = stand_of (store.tables old) in
      record { rows = []; within = []; one = omega arith; left = same_leaves (λ left. AreAfter s [] left ⊎ AreAfter s [] left) (inl refl) }
  work_kept (work.Ask request batches) = same_leaves (IsAskCut (store.tables old) request batches) (uncut request batches (store.tables old))

pub kept_leaves : (old new : conn.State) (it : Work) → TakesAsTheyAre old new → TakingLeaves old new it
kept_leaves old new it kept = record {
  worked = λ clean sound. work_kept old new (kept.crash clean) sound it;
  untouched = λ clean wrong. kept.crash clean;
}

pub kept_serving : (old new : conn.State) → TakesAsTheyAre old new → ServingLeaves old new
kept_serving old new kept = record {
  served = λ clean sound. same_leaves old new (kept.crash clean) sound (IsAfterSome (stand_of (store.tables old))) ([], refl);
  untouched = λ clean wrong. kept.crash clean;
}

-- ---- tables that were not recovered

-- The second version was wanted, and they are not those of the first.
pub second_cause : (trees : Trees) (it : Problem) → ¬ (it ≡ problem.Refused (refusal.Version (pos 1))) → IsProblemOf Second trees it
    → IsNotRecovered trees it
second_cause trees (problem.Refused why) other h = by why other h
  where
    by : (why : Refusal) → ¬ (problem.Refused why ≡ problem.Refused (refusal.Version (pos 1))) → IsRefusedFor Second trees why
        → IsNotRecoveredFor trees why
    by (refusal.Version found) other h = ((h.0, λ is. other (ap (λ n. problem.Refused (refusal.Version n)) is)), h)
    by (refusal.Damaged rule) other h = inr h
    by _ other h = absurd h
second_cause trees (problem.Fault fault) other h = h

-- The first version was wanted, which is what meta gives.
first_cause : (trees : Trees) → GivesVersion First trees → (it : Problem) → IsProblemOf First trees it → IsNotRecovered trees it
first_cause trees gives (problem.Refused why) h = by why h
  where
    by : (why : Refusal) → IsRefusedFor First trees why → IsNotRecoveredFor trees why
    by (refusal.Version found) h =
        let both : Some found ≡ Some (pos 1) = sym h.0 ∙ gives in
        let same : found ≡ pos 1 = cc in
        absurd (h.1 same)
    by (refusal.Damaged rule) h = inl h
    by _ h = absurd h
first_cause trees gives (problem.Fault fault) h = h

-- Tables that were turned away read as they did, and were then taken.
module _ (old mid new : conn.State) (turned : TakesForward old mid) (same : HasCleanDisk mid → ReadsAsItDid old mid) (then : TakesForward mid new) where
  now_same : HasCleanDisk new → mid.now ≡ old.now
  now_same clean = (same (omega (arith, then.was_clean, clean))).1

  unsound : HasCleanDisk new → ¬ IsSound old.now.trees → ¬ IsSound mid.now.trees
  unsound clean wrong sound = wrong (subst (λ (now : Database). IsSound now.trees) (now_same clean) sound)

  pub forward_again : TakesForward old new
  forward_again = record {
    was_clean = omega (arith, turned.was_clean, then.was_clean);
    crash = λ clean sound.
        subst (λ (now : Database). Leaves new (IsMidRecovery (state_in now.trees))) (now_same clean)
        (then.crash clean (subst (λ (now : Database). IsSound now.trees) (sym (now_same clean)) sound));
    untouched = λ wrong. record {
      was_clean = omega (arith, turned.was_clean, then.was_clean);
      same = λ clean up. let it = (then.untouched (unsound clean wrong)).same clean up in (it.0, it.1 ∙ now_same clean);
      crash = λ clean.
          subst (λ (now : Database). (left : Trees) → new.may_leave left → left ≡ now.trees) (now_same clean)
          ((then.untouched (unsound clean wrong)).crash clean);
    };
  }

  pub recovered_again : (a b : Option (List ℕ)) (status : Status) → (HasCleanDisk mid → GivesVersion First old.now.trees) → HasCleanDisk new
      → RecoveryEndsFor (CanBeTaken First) (IsProblemOf First mid.now.trees) mid new a b status → RecoveryEnds old new a b status
  recovered_again a b status gives clean (inl (can, was_recovered, told)) =
      inl (
        inl (subst (λ (now : Database). CanBeTaken First now.trees) (now_same clean) can),
        subst (λ (now : Database). IsRecovered (state_in now.trees) (store.tables new)) (now_same clean) was_recovered,
        told,
      )
  recovered_again a b status gives clean (inr (it, left)) =
      let cause = subst (λ (now : Database). IsProblemOf First now.trees it.problem) (now_same clean) it.cause in
      inr (
        record {
          problem = it.problem;
          cause = first_cause old.now.trees (gives (omega (arith, then.was_clean, clean))) it.problem cause;
          told = it.told;
        },
        forward_again,
      )

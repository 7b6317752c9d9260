-- How a job ends whose text was printed.
use Rattle.std.proofs.Common.{◌≡◌, ◌∙◌, inl, inr, Bool, true, false, ℕ, Option, Some, None, List, refl, ap, is_some}
use Rattle.std.specs.Io.KnownBytes.{Appends}
use Rattle.sqlite.specs.State as conn
use Rattle.sqlite.specs.State.{HasCleanDisk}
use Rattle.dh_types.specs.declared.run.Run.{Run}
use Rattle.dh_types.specs.declared.question.Question.TheVariants as asked
use Rattle.dh_model.specs.declared.open_run.OpenRun.{OpenRun}
use Rattle.dh_model.specs.Answers.{report, run_report}
use Rattle.dh_model.specs.Books.{Books, State}
use Rattle.dh_agency.specs.Agency.{stand_of}
use Rattle.dh_lines.specs.Session.{Answered}
use Rattle.dh_jobs.specs.declared.status.Status.{Status}
use Rattle.dh_jobs.specs.Statuses.{IsEnding, ending}
use Rattle.dh_jobs.specs.Printed.{Behind, Prints, Whole}
use Rattle.dh_jobs.specs.Jobs.{says_open, stand_in}
use Rattle.dh_jobs.specs.Ends.{Comes, Finishes, Unasked, WasPrinted}
use Rattle.dh_jobs.proofs.TextLemmas.{same_behind, told_behind}

-- ---- whether a run is open

of_run : (books : Books) (run : Option Run) → says_open (run_report books run) ≡ false
of_run books None = refl
of_run books (Some run) = by run.is_closed refl
  where
    by : (closed : Bool) → run.is_closed ≡ closed → says_open (run_report books (Some run)) ≡ false
    by true is = rw is refl
    by false is = rw is refl

-- the question for a month's run tells it
pub asks_open : (s : State) (month : ℕ) → says_open (report s (asked.Run month)) ≡ is_some s.open_run
asks_open s month = by s.open_run refl
  where
    by : (run : Option OpenRun) → s.open_run ≡ run → says_open (report s (asked.Run month)) ≡ is_some s.open_run
    by None is = rw is (of_run s.books _)
    by (Some run) is = rw is refl

-- ---- the status

pub ending_is : (is_refused : Bool) (run : Option OpenRun) → IsEnding is_refused (ending is_refused run)
ending_is true run = refl
ending_is false None = inl refl
ending_is false (Some run) = inr refl

-- ---- behind a text

module _ (mid new : conn.State) (a m b : Option (List ℕ)) (is_refused : Bool) (status : Status) where
  pub comes_finished : (it : Answered) → is_refused ≡ it.is_refused → Appends a m it.text → HasCleanDisk new → stand_in mid ≡ it.state
      → Finishes mid new m b is_refused status → Comes new a b it status
  comes_finished it refused h clean stands (inl (same, kind, left)) =
      let now = left clean in
      WasPrinted (same_behind a m b it.text same h) (ap stand_of now.0 ∙ stands)
      (now.1 ∙ ap (λ (s : State). ending is_refused s.open_run) stands ∙ ap (λ r. ending r it.state.open_run) refused)
  comes_finished it refused h clean stands (inr (told, left)) =
      Unasked (told_behind a m b it.text status h told) (λ is_open. ap stand_of (left clean is_open) ∙ stands)

  module _ (IsEnd : List ℕ → Status → Type 0) (text : List ℕ) (ends : (last : Status) → IsEnding is_refused last → IsEnd text last) where
    pub prints_finished : Appends a m text → Finishes mid new m b is_refused status → Prints IsEnd a b status
    prints_finished h (inl (same, kind, left)) = Whole text (ends status kind) (same_behind a m b text same h)
    prints_finished h (inr (told, left)) =
        Behind text (ending is_refused None) (ends _ (ending_is is_refused None)) (told_behind a m b text status h told)

-- Where an agency stands, and what a crash leaves of it.
use Rattle.std.proofs.Common.{◌≡◌, ◌∙◌, refl, sym, ap, subst, Bool, true, false, ℕ, Option, Some, None, arith}
use Rattle.sqlite.specs.Store.{Ghosts}
use Rattle.dh_types.specs.declared.question.Question.{Question}
use Rattle.dh_model.specs.declared.open_run.OpenRun.{OpenRun}
use Rattle.dh_model.specs.Answers.{is_put_off, report}
use Rattle.dh_model.specs.Books.{State, start}
use Rattle.dh_model.specs.Runs.{batch_size}
use Rattle.dh_model.specs.Whole.{whole}
use Rattle.dh_laws.specs.Asking.{AnswersPassTheRun, OpenRunsRefusePutOff}
use Rattle.dh_laws.specs.InOrder.{IsInOrder}
use Rattle.dh_laws.specs.StateTables.{IsStateInOrder}
use Rattle.dh_laws.proofs.CommandLemmas.Whole.{own_state, shows_none}
use Rattle.dh_schema.proofs.Crashing.{leaves_these}
use Rattle.dh_agency.specs.AgencyView.{AgencyView}
use Rattle.dh_agency.specs.Agency.{IsOpen, Leaves, LeavesItsTables, ReadsAs, machine, shown_by, stand, stand_of}
use Rattle.dh_agency.proofs.Carried.{leaves_weaker, sound_in_order}

-- where no run is open, the machine stands at the tables themselves
pub stands_there : (s : State) → IsStateInOrder s → s.open_run ≡ None → stand_of s ≡ s
stands_there s in_order none = own_state batch_size s (shows_none batch_size s none in_order)

-- tables are asked as the whole books are
pub report_stands : AnswersPassTheRun batch_size → OpenRunsRefusePutOff → (s : State) (question : Question) → IsStateInOrder s
    → report s question ≡ report (stand_of s) question
report_stands passes refuses s question in_order = by s.open_run refl
  where
    put_off : (at : OpenRun) → s.open_run ≡ Some at → (b : Bool) → is_put_off question ≡ b → report s question ≡ report (stand_of s) question
    put_off at is true off =
        (refuses s question at.month).1 (at, is, refl, off) ∙ sym ((refuses (stand_of s) question at.month).1 (at, is, refl, off))
    put_off at is false free =
        let here : IsInOrder batch_size s.books (Some at) = subst (λ run. IsInOrder batch_size s.books run) is in_order in
        subst (λ run. report (record { books = s.books; open_run = run }) question
        ≡ report (record { books = whole batch_size s.books; open_run = run }) question)
        (sym is)
        (passes s.books at (Some at) question (omega arith) here free)

    by : (run : Option OpenRun) → s.open_run ≡ run → report s question ≡ report (stand_of s) question
    by None none = ap (λ (t : State). report t question) (sym (stands_there s in_order none))
    by (Some at) is = put_off at is (is_put_off question) refl

module _ {S : Type 0} (g : Ghosts S) where
  pub leaves_what_holds : (a : AgencyView S) (P : State → Type 0) → LeavesItsTables g a → P (machine g a) → Leaves g a P
  leaves_what_holds a P h p = leaves_these (shown_by g a) P h p

  pub leaves_more : (a : AgencyView S) (P Q : State → Type 0) → ((t : State) → P t → Q t) → Leaves g a P → Leaves g a Q
  leaves_more a P Q f h = leaves_weaker (shown_by g a) P Q f h

  pub reads_in_order : (a : AgencyView S) → LeavesItsTables g a → IsStateInOrder (machine g a)
  reads_in_order a h = sound_in_order (shown_by g a).now.trees h.sound

  -- an agency begins where the machine does
  pub begins : (a : AgencyView S) (first : ℕ) → LeavesItsTables g a → machine g a ≡ start first → stand g a ≡ start first
  begins a first left is = stands_there (machine g a) (reads_in_order a left) (ap (λ (s : State). s.open_run) is) ∙ is

  -- at a fault the tables that can be read are those of a cut, or the agency had stopped before and these are its tables still
  pub cut_or_stopped : (old new : AgencyView S) (P : State → Type 0) (X : Type 0) → (old.is_stopped ≡ false → IsOpen g new → ReadsAs g new P)
      → (old.is_stopped ≡ true → X × (new ≡ old)) → P (machine g old) → IsOpen g new → P (machine g new)
  cut_or_stopped old new P X halted stopped before is_open = by old.is_stopped refl
    where
      by : (b : Bool) → old.is_stopped ≡ b → P (machine g new)
      by false live = (halted live is_open).1
      by true dead = subst (λ a. P (machine g a)) (sym (stopped dead).1) before

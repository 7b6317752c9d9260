-- What may be asked while a run is open, and what is refused because of it.
use Rattle.std.specs.Prelude.{◌≡◌, ◌≤◌, ◌↔◌, ℕ, true, false, Option, Some}
use Rattle.dh_types.specs.declared.command.Command.{Command}
use Rattle.dh_types.specs.declared.question.Question.{Question}
use Rattle.dh_types.specs.declared.reply.Refusal.TheVariants as refusal
use Rattle.dh_types.specs.Reports.{NoReport}
use Rattle.dh_model.specs.declared.open_run.OpenRun.{OpenRun}
use Rattle.dh_model.specs.declared.rows.Verdict.TheVariants as verdict
use Rattle.dh_model.specs.Answers.{is_put_off, report}
use Rattle.dh_model.specs.Books.{Books, State}
use Rattle.dh_model.specs.MachineLaws.{is_frozen}
use Rattle.dh_model.specs.Runs.{batches}
use Rattle.dh_model.specs.Verdicts.{verdict_on}
use Rattle.dh_model.specs.Whole.{whole}
use Rattle.dh_laws.specs.InOrder.{IsInOrder}

module _ (size : ℕ) where
  -- what is not put off is answered as by the whole books, whatever run stands beside these
  abbrev pub AnswersPassTheRun : Type 0
  AnswersPassTheRun = (books : Books) (run : OpenRun) (beside : Option OpenRun) (question : Question) → 1 ≤ size → IsInOrder size books (Some run)
      → is_put_off question ≡ false
      → report (record { books = books; open_run = Some run }) question ≡ report (record { books = whole size books; open_run = beside }) question

  -- and the open month has as many batches
  abbrev pub BatchesPassTheRun : Type 0
  BatchesPassTheRun = (books : Books) (run : OpenRun) → 1 ≤ size → IsInOrder size books (Some run)
      → batches size books run.month ≡ batches size (whole size books) run.month

-- a command is refused for an open run of the month exactly where such a run is open and the command is frozen
abbrev pub OpenRunsRefuseFrozen : Type 0
OpenRunsRefuseFrozen = (books : Books) (run : Option OpenRun) (told : Command) (month : ℕ)
    → (verdict_on books run told ≡ verdict.Refused (refusal.RunOpen month)) ↔ ((at : OpenRun) × (run ≡ Some at) × (at.month ≡ month) × (is_frozen told ≡ true))

-- and a question exactly where such a run is open and the question is put off
abbrev pub OpenRunsRefusePutOff : Type 0
OpenRunsRefusePutOff = (s : State) (question : Question) (month : ℕ)
    → (report s question ≡ NoReport (refusal.RunOpen month)) ↔ ((at : OpenRun) × (s.open_run ≡ Some at) × (at.month ≡ month) × (is_put_off question ≡ true))

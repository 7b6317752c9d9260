-- What is not put off is answered as by the whole books.
use Rattle.std.proofs.Common.{◌≡◌, ℕ, refl, false, Option, Some, None}
use Rattle.std.specs.Ordering.{nat_cmp}
use Rattle.std.specs.FinMap.{FinMap}
use Rattle.dh_types.specs.declared.question.Question.{Question}
use Rattle.dh_types.specs.declared.question.Question.TheVariants as asked
use Rattle.dh_types.specs.declared.lease.Charge.{Charge}
use Rattle.dh_types.specs.declared.run.Part.{Part}
use Rattle.dh_types.specs.declared.fee.PartFee.{PartFee}
use Rattle.dh_types.specs.declared.run.Run.{Run}
use Rattle.dh_model.specs.declared.open_run.OpenRun.{OpenRun}
use Rattle.dh_model.specs.Answers.{is_put_off, report}
use Rattle.dh_model.specs.Books.{Books, pair_cmp, text_cmp}
use Rattle.dh_model.specs.Runs.{batches}
use Rattle.dh_model.specs.Whole.{completed, open_row}
use Rattle.dh_laws.specs.Asking.{AnswersPassTheRun, BatchesPassTheRun}

module _ (books : Books) (run : OpenRun) (beside : Option OpenRun) where
  module _ (charges : FinMap (pair_cmp nat_cmp nat_cmp) Charge) (parts : FinMap (pair_cmp nat_cmp text_cmp) Part)
      (fees : FinMap (pair_cmp nat_cmp text_cmp) PartFee) (runs : FinMap nat_cmp Run) where
    -- charges, parts, their fees and runs have no say in what is not put off
    answered_by_the_rest : (question : Question) → is_put_off question ≡ false
        → report (record { books = books; open_run = Some run }) question ≡ report
        (record { books = record books { charges = charges; parts = parts; part_fees = fees; runs = runs }; open_run = beside }) question
    answered_by_the_rest asked.Branches free = refl
    answered_by_the_rest (asked.Vacant day) free = refl
    answered_by_the_rest (asked.Matching it) free = refl
    answered_by_the_rest _ free = cc

  -- and a run adds nothing else
  answered_alike : (size : ℕ) (question : Question) (found : Option Run) → is_put_off question ≡ false
      → report (record { books = books; open_run = Some run }) question ≡ report (record { books = completed size books found; open_run = beside }) question
  answered_alike size question None free = answered_by_the_rest books.charges books.parts books.part_fees books.runs question free
  answered_alike size question (Some row) free =
      let all = completed size books (Some row) in
      answered_by_the_rest all.charges all.parts all.part_fees all.runs question free

pub answers_pass_the_run : (size : ℕ) → AnswersPassTheRun size
answers_pass_the_run size books run beside question pos in_order free = answered_alike books run beside size question (open_row books) free

batches_alike : (size : ℕ) (books : Books) (month : ℕ) (found : Option Run) → batches size books month ≡ batches size (completed size books found) month
batches_alike size books month None = refl
batches_alike size books month (Some row) = refl

pub batches_pass_the_run : (size : ℕ) → BatchesPassTheRun size
batches_pass_the_run size books run pos in_order = batches_alike size books run.month (open_row books)

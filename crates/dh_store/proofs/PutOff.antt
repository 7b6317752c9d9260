-- A question, and the run that is open.
use Rattle.std.proofs.Common.{◌≡◌, sym, ap, true, Option, Some, None, option_map}
use Rattle.sqlite.specs.State.{State}
use Rattle.dh_types.specs.declared.question.Question.{Question}
use Rattle.dh_types.specs.declared.reply.Refusal.TheVariants as refusal
use Rattle.dh_types.specs.declared.run.Run.{Run}
use Rattle.dh_types.specs.Reports.{NoReport}
use Rattle.dh_model.specs.declared.open_run.OpenRun.{OpenRun}
use Rattle.dh_model.specs.Answers.{answer_of, is_put_off, report, unless_open}
use Rattle.dh_model.specs.Books as machine
use Rattle.dh_model.specs.Runs.{batch_size}
use Rattle.dh_model.specs.Whole.{batches_shown, open_row}
use Rattle.dh_schema.specs.Store.{tables}

put_off_by : (s : machine.State) (at : OpenRun) (question : Question) → s.open_run ≡ Some at → is_put_off question ≡ true
    → report s question ≡ NoReport (refusal.RunOpen at.month)
put_off_by s at question is off = rw off (ap (λ (run : Option OpenRun). unless_open run (answer_of s.books question)) is)

module _ (s : State) where
  abbrev shown : Run → OpenRun
  shown row = record { month = row.month; done = batches_shown batch_size (tables s).books row.month }

  run_there : (found : Option Run) → found ≡ open_row (tables s).books → (tables s).open_run ≡ option_map shown found
  run_there found is = ap (option_map shown) (sym is)

  -- no run is open
  pub none_there : None ≡ open_row (tables s).books → (tables s).open_run ≡ None
  none_there is = run_there None is

  -- the run that is open refuses it
  pub refused_for : (row : Run) (question : Question) → Some row ≡ open_row (tables s).books → is_put_off question ≡ true
      → NoReport (refusal.RunOpen row.month) ≡ report (tables s) question
  refused_for row question is off = sym (put_off_by (tables s) (shown row) question (run_there (Some row) is) off)

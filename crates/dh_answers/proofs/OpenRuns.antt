-- What an open run says of a question.
use Rattle.std.proofs.Common.{◌≡◌, refl, Bool, true, false, if◌then◌else◌, Option, Some, None, option_map}
use Rattle.dh_types.specs.declared.question.Question.{Question}
use Rattle.dh_types.specs.declared.reply.Refusal.{Refusal}
use Rattle.dh_types.specs.declared.reply.Refusal.TheVariants as refusal
use Rattle.dh_types.specs.Reports.{NoReport, Report}
use Rattle.dh_model.specs.declared.open_run.OpenRun.{OpenRun}
use Rattle.dh_model.specs.Answers.{answer_of, is_put_off, report, unless_open}
use Rattle.dh_model.specs.Books.{State}

abbrev refusal_of : Option OpenRun → Option Refusal
refusal_of run = option_map (λ (at : OpenRun). refusal.RunOpen at.month) run

by_question : (off : Bool) (run : Option OpenRun) (why : Refusal) (otherwise : Report) → (if off then refusal_of run else None) ≡ Some why
    → NoReport why ≡ (if off then unless_open run otherwise else otherwise)
by_question true None why otherwise is = cc
by_question true (Some at) why otherwise is = cc
by_question false run why otherwise is = cc

none_put_off : (off : Bool) (run : Option OpenRun) (otherwise : Report) → (if off then refusal_of run else None) ≡ None
    → (if off then otherwise else otherwise) ≡ (if off then unless_open run otherwise else otherwise)
none_put_off true None otherwise is = refl
none_put_off true (Some at) otherwise is = cc
none_put_off false run otherwise is = refl

module _ (s : State) (question : Question) where
  pub refused : (why : Refusal) → (if is_put_off question then refusal_of s.open_run else None) ≡ Some why → NoReport why ≡ report s question
  refused why is = by_question (is_put_off question) s.open_run why (answer_of s.books question) is

  pub passed : (if is_put_off question then refusal_of s.open_run else None) ≡ None → report (record s { open_run = None }) question ≡ report s question
  passed is = none_put_off (is_put_off question) s.open_run (answer_of s.books question) is

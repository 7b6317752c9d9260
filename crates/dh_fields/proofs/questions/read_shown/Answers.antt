use Rattle.std.proofs.Common.{refl}
use Rattle.dh_fields.proofs.Forms.{no_text, told_as, unknown}
use Rattle.dh_fields.specs.Lines.{arrears_form, branches_form, matching_form, owner_month_form, question_forms, shown_run_form, statement_form}
use Rattle.dh_fields.specs.Lines.{vacant_form}
use Rattle.dh_fields.proofs.questions.read_shown.Goals as goal

pub returns-in_err-text : goal.returns-in_err-text
returns-in_err-text c = no_text question_forms 2 c.args.line.now refl refl _ _ _ c.from_residual.ensures.1 c.in_err-text.ensures

pub returns-in-branches : goal.returns-in-branches
returns-in-branches c = told_as question_forms 2 c.args.line.now branches_form _ _ c.in_ok-text.ensures c.in-branches.is refl c.read_branches.ensures

pub returns-in-vacant : goal.returns-in-vacant
returns-in-vacant c = told_as question_forms 2 c.args.line.now vacant_form _ _ c.in_ok-text.ensures c.in-vacant.is refl c.read_vacant.ensures

pub returns-in-matching : goal.returns-in-matching
returns-in-matching c = told_as question_forms 2 c.args.line.now matching_form _ _ c.in_ok-text.ensures c.in-matching.is refl c.read_matching.ensures

pub returns-in-statement : goal.returns-in-statement
returns-in-statement c = told_as question_forms 2 c.args.line.now statement_form _ _ c.in_ok-text.ensures c.in-statement.is refl c.read_statement.ensures

pub returns-in-arrears : goal.returns-in-arrears
returns-in-arrears c = told_as question_forms 2 c.args.line.now arrears_form _ _ c.in_ok-text.ensures c.in-arrears.is refl c.read_arrears.ensures

pub returns-in-run : goal.returns-in-run
returns-in-run c = told_as question_forms 2 c.args.line.now shown_run_form _ _ c.in_ok-text.ensures c.in-run.is refl c.read_shown_run.ensures

pub returns-in-owner : goal.returns-in-owner
returns-in-owner c = told_as question_forms 2 c.args.line.now owner_month_form _ _ c.in_ok-text.ensures c.in-owner.is refl c.read_owner_month.ensures

pub returns-in_default : goal.returns-in_default
returns-in_default c =
    let no = c.in_default in
    unknown question_forms 2 c.args.line.now _ c.in_ok-text.ensures
    (no.not-branches, (no.not-vacant, (no.not-matching, (no.not-statement, (no.not-arrears, (no.not-run, (no.not-owner, tt)))))))

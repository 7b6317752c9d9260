-- Only an open run is a reason to refuse for an open run.
use Rattle.std.proofs.Common.{◌≡◌, ◌∙◌, refl, ap, ℕ, Bool, true, false, List, [], ◌∷◌, Option, Some}
use Rattle.std.proofs.Common.{None, ◌&&◌, if◌then◌else◌}
use Rattle.std.proofs.lemmas.Bool.{and_parts}
use Rattle.std.specs.FinMap.{contains_key, get, len}
use Rattle.dh_types.specs.declared.client.Client.{Client}
use Rattle.dh_types.specs.declared.owner.Owner.{Owner}
use Rattle.dh_types.specs.declared.lease.Lease.{Lease}
use Rattle.dh_types.specs.declared.run.Run.{Run}
use Rattle.dh_types.specs.declared.command.Command.{Command}
use Rattle.dh_types.specs.declared.command.Command.TheVariants as command
use Rattle.dh_types.specs.declared.question.OwnerMonth.{OwnerMonth}
use Rattle.dh_types.specs.declared.question.Question.{Question}
use Rattle.dh_types.specs.declared.question.Question.TheVariants as asked
use Rattle.dh_types.specs.declared.reply.Refusal.{Refusal}
use Rattle.dh_types.specs.declared.reply.Refusal.TheVariants as refusal
use Rattle.dh_types.specs.Reports.{Report, NoReport}
use Rattle.dh_model.specs.declared.open_run.OpenRun.{OpenRun}
use Rattle.dh_model.specs.declared.rows.Change.{Change}
use Rattle.dh_model.specs.declared.rows.Verdict.{Verdict}
use Rattle.dh_model.specs.declared.rows.Verdict.TheVariants as verdict
use Rattle.dh_model.specs.Answers.{arrears, is_put_off, matching_report, owner_report, report, run_report, statement}
use Rattle.dh_model.specs.Answers as answers
use Rattle.dh_model.specs.Books.{Books}
use Rattle.dh_model.specs.Checks.{Check}
use Rattle.dh_model.specs.MachineLaws.{is_frozen, is_frozen_on}
use Rattle.dh_model.specs.Verdicts.{Finding, Free, Frozen, Known, Must, Needed, OnRun, by_run, decided, first_finding, judged, on_run, ruling, verdict_on}
use Rattle.dh_model.proofs.MachineLemmas.{frozen_verdict, half_runs_not_shown}
use Rattle.dh_laws.specs.Asking.{OpenRunsRefuseFrozen, OpenRunsRefusePutOff}

-- ---- verdicts

abbrev is_other : Refusal → Bool
is_other (refusal.RunOpen month) = false
is_other _ = true

abbrev found_other : List Finding → Bool
found_other [] = true
found_other (Known is kept ∷ rest) = found_other rest
found_other (Must holds why ∷ rest) = is_other why && found_other rest

abbrev checked_other : List Check → Bool
checked_other [] = true
checked_other (check ∷ rest) = is_other check.1 && checked_other rest

-- no ruling refuses for an open run
rulings_other : (books : Books) (count : ℕ) (told : Command)
    → (found_other (ruling books count told).before ≡ true) × (checked_other (ruling books count told).checks ≡ true)
rulings_other books count (command.Post most) = (refl, refl)
rulings_other books count _ = (refl, refl)

module _ (month : ℕ) where
  -- the verdict doesn't refuse for an open run
  abbrev Unlike : Verdict → Type 0
  Unlike v = v ≡ verdict.Refused (refusal.RunOpen month) → ⊥

  refused_unlike : (why : Refusal) → is_other why ≡ true → Unlike (verdict.Refused why)
  refused_unlike (refusal.RunOpen other) is e = cc
  refused_unlike _ is e = cc

  checks_unlike : (checks : List Check) (rows : Change) → checked_other checks ≡ true → Unlike (judged checks rows)
  checks_unlike [] rows is e = cc
  checks_unlike ((true, why) ∷ rest) rows is e = checks_unlike rest rows (and_parts (is_other why) _ is).1 e
  checks_unlike ((false, why) ∷ rest) rows is e = refused_unlike why (and_parts (is_other why) _ is).0 e

  told_unlike : (before : List Finding) (otherwise : Verdict) → found_other before ≡ true → Unlike otherwise → Unlike (first_finding before otherwise)
  told_unlike [] otherwise is unlike e = unlike e
  told_unlike (Known true kept ∷ rest) otherwise is unlike e = cc
  told_unlike (Known false kept ∷ rest) otherwise is unlike e = told_unlike rest otherwise is unlike e
  told_unlike (Must true why ∷ rest) otherwise is unlike e = told_unlike rest otherwise (and_parts (is_other why) _ is).1 unlike e
  told_unlike (Must false why ∷ rest) otherwise is unlike e = refused_unlike why (and_parts (is_other why) _ is).0 e

  abbrev IsOpenFor : Option OpenRun → Bool → Type 0
  IsOpenFor run put_off = (at : OpenRun) × (run ≡ Some at) × (at.month ≡ month) × (put_off ≡ true)

  run_refused : (on : OnRun) (run : Option OpenRun) (v : Verdict) → Unlike v → by_run on run v ≡ verdict.Refused (refusal.RunOpen month)
      → IsOpenFor run (is_frozen_on on)
  run_refused Free run v unlike e = absurd (unlike e)
  run_refused Frozen None v unlike e = absurd (unlike e)
  run_refused Frozen (Some at) v unlike e = let is : at.month ≡ month = cc in (at, refl, is, refl)
  run_refused Needed None v unlike e = cc
  run_refused Needed (Some at) v unlike e = absurd (unlike e)

  module _ (books : Books) where
    refused_for : (run : Option OpenRun) (told : Command) → verdict_on books run told ≡ verdict.Refused (refusal.RunOpen month) → IsOpenFor run (is_frozen told)
    refused_for run told e =
        let it = ruling books (len books.receipts) told in
        run_refused (on_run told) run (decided it) (told_unlike it.before (judged it.checks it.rows) (rulings_other books (len books.receipts) told).0
        (checks_unlike it.checks it.rows (rulings_other books (len books.receipts) told).1)) e

    -- ---- reports

    abbrev Answers : Report → Type 0
    Answers r = r ≡ NoReport (refusal.RunOpen month) → ⊥

    if_answers : (b : Bool) (r : Report) (why : Refusal) → Answers r → Answers (NoReport why) → Answers (if b then r else NoReport why)
    if_answers true r why answers apart = answers
    if_answers false r why answers apart = apart

    matching_answers : (found : Option Client) (day : ℕ) → Answers (matching_report books found day)
    matching_answers None day = λ e. cc
    matching_answers (Some client) day = λ e. cc

    statement_answers : (found : Option Lease) → Answers (statement books found)
    statement_answers None = λ e. cc
    statement_answers (Some lease) = λ e. cc

    run_answers : (found : Option Run) → Answers (run_report books found)
    run_answers None = λ e. cc
    run_answers (Some run) = if_answers run.is_closed _ refusal.NoRun (λ e. cc) (λ e. cc)

    owner_answers : (it : OwnerMonth) (found : Option Owner) (run : Option Run) → Answers (owner_report books it found run)
    owner_answers it None run = λ e. cc
    owner_answers it (Some owner) None = λ e. cc
    owner_answers it (Some owner) (Some run) = if_answers run.is_closed _ refusal.NoRun (λ e. cc) (λ e. cc)

    put_off_for : (run : Option OpenRun) (otherwise : Report) → Answers otherwise → answers.unless_open run otherwise ≡ NoReport (refusal.RunOpen month)
        → IsOpenFor run true
    put_off_for None otherwise answered e = absurd (answered e)
    put_off_for (Some at) otherwise answered e = let is : at.month ≡ month = cc in (at, refl, is, refl)

    answered : (question : Question) → Answers (answers.answer_of books question)
    answered asked.Branches = λ e. cc
    answered (asked.Vacant day) = λ e. cc
    answered (asked.Matching it) = matching_answers (get books.clients it.client) it.day
    answered (asked.Statement lease) = statement_answers (get books.leases lease)
    answered (asked.Arrears branch) = if_answers (contains_key books.branches branch) _ (refusal.Unknown 3) (λ e. cc) (λ e. cc)
    answered (asked.Run asked_month) = run_answers (get books.runs asked_month)
    answered (asked.Owner it) = owner_answers it (get books.owners it.owner) (get books.runs it.month)

    by_question : (off : Bool) (run : Option OpenRun) (otherwise : Report) → Answers otherwise
        → (if off then answers.unless_open run otherwise else otherwise) ≡ NoReport (refusal.RunOpen month) → IsOpenFor run off
    by_question true run otherwise unlike e = put_off_for run otherwise unlike e
    by_question false run otherwise unlike e = absurd (unlike e)

    not_answered : (run : Option OpenRun) (question : Question) → report (record { books = books; open_run = run }) question ≡ NoReport (refusal.RunOpen month)
        → IsOpenFor run (is_put_off question)
    not_answered run question e = by_question (is_put_off question) run (answers.answer_of books question) (answered question) e

pub open_runs_refuse_frozen : OpenRunsRefuseFrozen
open_runs_refuse_frozen books run told month = (
  refused_for month books run told,
  λ h. ap (λ r. verdict_on books r told) h.1 ∙ frozen_verdict books h.0 told h.3 ∙ ap (λ m. verdict.Refused (refusal.RunOpen m)) h.2,
)

pub open_runs_refuse_put_off : OpenRunsRefusePutOff
open_runs_refuse_put_off s question month = (
  not_answered month s.books s.open_run question,
  λ h. ap (λ r. report (record { books = s.books; open_run = r }) question) h.1 ∙ half_runs_not_shown s.books h.0 question h.3
      ∙ ap (λ m. NoReport (refusal.RunOpen m)) h.2,
)

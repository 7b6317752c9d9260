-- What the verdict on a command says, by its ruling alone.
use Rattle.std.proofs.Common.{◌≡◌, refl, sym, true, false, not, List, [], ◌∷◌, Option, Some, None}
use Rattle.std.specs.Option.{is_some}
use Rattle.dh_types.specs.declared.reply.Refusal.{Refusal}
use Rattle.dh_model.specs.declared.open_run.OpenRun.{OpenRun}
use Rattle.dh_model.specs.declared.rows.Change.{Change}
use Rattle.dh_model.specs.declared.rows.Verdict.{Verdict}
use Rattle.dh_model.specs.declared.rows.Verdict.TheVariants as verdict
use Rattle.dh_model.specs.Checks.{Check, first_failing}
use Rattle.dh_model.specs.Verdicts.{Finding, Free, Frozen, Known, Must, Needed, OnRun, Ruling, by_run, decided, first_finding, judged, rows_unless}

-- ---- where it comes to rows

abbrev pub Unsaid : List Finding → Type 0
Unsaid [] = Unit {0}
Unsaid (Known is kept ∷ rest) = (is ≡ false) × Unsaid rest
Unsaid (Must holds why ∷ rest) = (holds ≡ true) × Unsaid rest

abbrev pub Held : List Check → Type 0
Held [] = Unit {0}
Held (check ∷ rest) = (check.0 ≡ true) × Held rest

abbrev pub RunFits : OnRun → Option OpenRun → Type 0
RunFits Free run = Unit {0}
RunFits Frozen run = run ≡ None
RunFits Needed run = (at : OpenRun) × (run ≡ Some at)

unsaid : (before : List Finding) (otherwise : Verdict) (rows : Change) → first_finding before otherwise ≡ verdict.Change rows → Unsaid before
    × (otherwise ≡ verdict.Change rows)
unsaid [] otherwise rows h = (tt, h)
unsaid (Known true kept ∷ rest) otherwise rows h = cc
unsaid (Known false kept ∷ rest) otherwise rows h = let more = unsaid rest otherwise rows h in ((refl, more.0), more.1)
unsaid (Must true why ∷ rest) otherwise rows h = let more = unsaid rest otherwise rows h in ((refl, more.0), more.1)
unsaid (Must false why ∷ rest) otherwise rows h = cc

held : (checks : List Check) → first_failing checks ≡ None → Held checks
held [] h = tt
held ((true, why) ∷ rest) h = (refl, held rest h)
held ((false, why) ∷ rest) h = cc

passed_by : (failing : Option Refusal) (rows given : Change) → rows_unless failing given ≡ verdict.Change rows → (rows ≡ given) × (failing ≡ None)
passed_by None rows given h = (let is : given ≡ rows = cc in sym is, refl)
passed_by (Some why) rows given h = cc

run_fits : (on : OnRun) (run : Option OpenRun) (otherwise : Verdict) (rows : Change) → by_run on run otherwise ≡ verdict.Change rows → RunFits on run
    × (otherwise ≡ verdict.Change rows)
run_fits Free run otherwise rows h = (tt, h)
run_fits Frozen None otherwise rows h = (refl, h)
run_fits Frozen (Some run) otherwise rows h = cc
run_fits Needed None otherwise rows h = cc
run_fits Needed (Some run) otherwise rows h = ((run, refl), h)

-- it comes to the ruling's rows, nothing was found before, and each check holds
pub record Passes (on : OnRun) (run : Option OpenRun) (it : Ruling) (rows : Change) : Type 0 where
  pub rows_are : rows ≡ it.rows
  pub fits : RunFits on run
  pub before : Unsaid it.before
  pub checks : Held it.checks

pub passes : (on : OnRun) (run : Option OpenRun) (it : Ruling) (rows : Change) → by_run on run (decided it) ≡ verdict.Change rows → Passes on run it rows
passes on run it rows h =
    let fits = run_fits on run (decided it) rows h in
    let found = unsaid it.before (judged it.checks it.rows) rows fits.1 in
    let all = passed_by (first_failing it.checks) rows it.rows found.1 in
    record { rows_are = all.0; fits = fits.0; before = found.0; checks = held it.checks all.1 }

-- ---- what holds of each verdict that a ruling can come to

module _ (P : Verdict → Type 0) (refused : (why : Refusal) → P (verdict.Refused why)) where
  abbrev AllKept : List Finding → Type 0
  AllKept [] = Unit {0}
  AllKept (Known is kept ∷ rest) = P (verdict.Already kept) × AllKept rest
  AllKept (Must holds why ∷ rest) = AllKept rest

  of_findings : (before : List Finding) (otherwise : Verdict) → AllKept before → P otherwise → P (first_finding before otherwise)
  of_findings [] otherwise kept rest = rest
  of_findings (Known true reply ∷ more) otherwise kept rest = kept.0
  of_findings (Known false reply ∷ more) otherwise kept rest = of_findings more otherwise kept.1 rest
  of_findings (Must true why ∷ more) otherwise kept rest = of_findings more otherwise kept rest
  of_findings (Must false why ∷ more) otherwise kept rest = refused why

  of_rows : (failing : Option Refusal) (rows : Change) → P (verdict.Change rows) → P (rows_unless failing rows)
  of_rows None rows accepted = accepted
  of_rows (Some why) rows accepted = refused why

  of_run : (on : OnRun) (run : Option OpenRun) (otherwise : Verdict) → P otherwise → P (by_run on run otherwise)
  of_run Free run otherwise rest = rest
  of_run Frozen None otherwise rest = rest
  of_run Frozen (Some run) otherwise rest = refused _
  of_run Needed None otherwise rest = refused _
  of_run Needed (Some run) otherwise rest = rest

  pub of_ruling : (on : OnRun) (run : Option OpenRun) (it : Ruling) → AllKept it.before → P (verdict.Change it.rows) → P (by_run on run (decided it))
  of_ruling on run it kept accepted =
      of_run on run (decided it) (of_findings it.before (judged it.checks it.rows) kept (of_rows (first_failing it.checks) it.rows accepted))

-- ---- rows that may be there

pub no_row : {X : Type 0} (found : Option X) → not (is_some found) ≡ true → found ≡ None
no_row None h = refl
no_row (Some row) h = cc

pub a_row : {X : Type 0} (found : Option X) → is_some found ≡ true → (row : X) × (found ≡ Some row)
a_row None h = cc
a_row (Some row) h = (row, refl)

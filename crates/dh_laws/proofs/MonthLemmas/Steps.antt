-- Over whole books each step of the machine leaves them lawful.
use Rattle.std.proofs.Common.{◌≡◌, refl, sym, subst, ℕ, ◌≤◌, true, false, Option, Some, None}
use Rattle.std.specs.FinMap.{values}
use Rattle.dh_types.specs.declared.command.Command.{Command}
use Rattle.dh_types.specs.declared.command.Command.TheVariants as command
use Rattle.dh_types.specs.declared.command.RunOrder.{RunOrder}
use Rattle.dh_model.specs.declared.open_run.OpenRun.{OpenRun}
use Rattle.dh_model.specs.declared.rows.Change.{Change}
use Rattle.dh_model.specs.declared.rows.Change.TheVariants as change
use Rattle.dh_model.specs.declared.rows.Verdict.{Verdict}
use Rattle.dh_model.specs.declared.rows.Verdict.TheVariants as verdict
use Rattle.dh_model.specs.Books.{Books, State}
use Rattle.dh_model.specs.Rules.{IsLawful}
use Rattle.dh_model.specs.MachineLaws.{is_post}
use Rattle.dh_model.specs.Runs.{ran}
use Rattle.dh_model.specs.Verdicts.{opened_run, verdict_on}
use Rattle.dh_model.specs.Machine.{carried_out, changed, settled}
use Rattle.dh_model.specs.Whole.{IsOpenAt, open_row}
use Rattle.dh_model.proofs.Among.{is_among}
use Rattle.dh_model.proofs.MachineLemmas.{resumed_books}
use Rattle.dh_laws.specs.Batches.{is_plain}
use Rattle.dh_laws.specs.InOrder.{AreKeyed, IsEntered, IsInOrder}
use Rattle.dh_laws.specs.Keeping.{ChangesKeepOrder, StepsKeepTheLaw, WholeIsLawful}
use Rattle.dh_laws.specs.Posting.{RunIsOpeningMadeWhole}
use Rattle.dh_laws.proofs.MonthLemmas.Shown.{none_open}
use Rattle.dh_laws.proofs.MonthLemmas.Whole.{lawful_closed}
use Rattle.dh_laws.proofs.VerdictLemmas.Cases.{plain_of, rows_are, rows_of, run_stays}

module _ (size : ℕ) (changes : ChangesKeepOrder size) (wholes : WholeIsLawful size) (runs : RunIsOpeningMadeWhole size) (s : State) (pos : 1 ≤ size)
    (keyed : AreKeyed s.books) (lawful : IsLawful s.books size) where
  abbrev Law : Books → Type 0
  Law books = AreKeyed books × IsLawful books size

  in_order : IsInOrder size s.books None
  in_order = record { keyed = keyed; rules = lawful.rules; shown = none_open s.books (λ run a. lawful.closed run (is_among (values s.books.runs) run a)) }

  -- rows that open no run
  kept : (told : Command) (rows : Change) → IsEntered told → verdict_on s.books None told ≡ verdict.Change rows → is_plain rows ≡ true
      → Law (changed rows s.books)
  kept told rows entered h plain =
      let after = changes s.books None told rows pos in_order entered h in
      let shown : open_row (changed rows s.books) ≡ None =
      subst (λ run. IsOpenAt size (changed rows s.books) run) (run_stays None rows plain) after.shown in
      (after.keyed, lawful_closed size (changed rows s.books) pos after.keyed after.rules shown)

  -- what is accepted, other than batches, is so where no run is open
  with_no_run : (run : Option OpenRun) (told : Command) (rows : Change) → is_post told ≡ false → verdict_on s.books run told ≡ verdict.Change rows
      → verdict_on s.books None told ≡ verdict.Change rows
  with_no_run None told rows other h = h
  with_no_run (Some at) (command.Post count) rows other h = cc
  with_no_run (Some at) _ rows other h = cc

  ran_kept : (order : RunOrder) → verdict_on s.books None (command.Open order) ≡ verdict.Change (change.Open (opened_run s.books order))
      → Law (ran size s.books order.key)
  ran_kept order h =
      let row = opened_run s.books order in
      let after = changes s.books None (command.Open order) (change.Open row) pos in_order tt h in
      let law = wholes (changed (change.Open row) s.books) (Some (record { month = row.month; done = 0 })) pos after in
      subst Law (runs s.books order pos in_order h) law

  carried : (told : Command) → IsEntered told → verdict_on s.books s.open_run told ≡ verdict.Change (rows_of s.books told)
      → Law (carried_out size s told (rows_of s.books told)).0.books
  carried (command.Run order) e h = ran_kept order (with_no_run s.open_run (command.Run order) (change.Open (opened_run s.books order)) refl h)
  carried (command.Open order) e h = ran_kept order (with_no_run s.open_run (command.Open order) (change.Open (opened_run s.books order)) refl h)
  carried (command.Post count) e h = subst Law (sym (resumed_books size s.books count s.open_run)) (keyed, lawful)
  carried told e h =
      let rows = rows_of s.books told in
      kept told rows e (with_no_run s.open_run told rows refl h) (plain_of s.books told refl)

  settled_kept : (told : Command) (v : Verdict) → IsEntered told → verdict_on s.books s.open_run told ≡ v → Law (settled size s told v).0.books
  settled_kept told (verdict.Change rows) e h =
      let is = rows_are s.books s.open_run rows told h in
      subst (λ r. Law (carried_out size s told r).0.books) (sym is)
      (carried told e (subst (λ r. verdict_on s.books s.open_run told ≡ verdict.Change r) is h))
  settled_kept told (verdict.Already kept) e h = (keyed, lawful)
  settled_kept told (verdict.Refused why) e h = (keyed, lawful)

pub steps_keep : (size : ℕ) → ChangesKeepOrder size → WholeIsLawful size → RunIsOpeningMadeWhole size → StepsKeepTheLaw size
steps_keep size changes wholes runs s told pos keyed lawful entered =
    settled_kept size changes wholes runs s pos keyed lawful told (verdict_on s.books s.open_run told) entered refl

-- The rows of an accepted command leave runs, months and the open run in order.
use Rattle.std.proofs.Common.{◌≡◌, refl, sym, subst, ℕ, List, Option, Some, None}
use Rattle.std.specs.FinMap.{get, insert}
use Rattle.dh_types.specs.declared.property.Property.{Property}
use Rattle.dh_model.specs.declared.open_run.OpenRun.{OpenRun}
use Rattle.dh_model.specs.declared.rows.Change.{Change}
use Rattle.dh_model.specs.declared.rows.Change.TheVariants as change
use Rattle.dh_model.specs.Books.{Books}
use Rattle.dh_model.specs.Kinds.{Kind}
use Rattle.dh_model.specs.Machine.{changed}
use Rattle.dh_model.specs.Rules.{NamesWhatIsThere}
use Rattle.dh_laws.specs.InOrder.{AreKeyed, run_after}
use Rattle.dh_laws.proofs.VerdictLemmas.Acceptance.{Accepted, turned, turned_is}
use Rattle.dh_laws.proofs.InvariantLemmas.EarlyEnds.{ending_keeps}
use Rattle.dh_laws.proofs.MonthLemmas.Dues.{new_property, same_property}
use Rattle.dh_laws.proofs.MonthLemmas.Keep.{RunInMonths, branch_keeps, free_keeps, properties_keep, untouched}
use Rattle.dh_laws.proofs.MonthLemmas.Open.{lease_keeps, open_keeps}

module _ (size : ℕ) (books : Books) (run : Option OpenRun) (keyed : AreKeyed books) (names : NamesWhatIsThere books)
    (in_order : RunInMonths size books run) where
  -- where no run is open, what keeps the order does so
  where_closed : (c : Books) → run ≡ None → (RunInMonths size books None → RunInMonths size c None) → RunInMonths size c run
  where_closed c none keeps = subst (RunInMonths size c) (sym none) (keeps (subst (RunInMonths size books) none in_order))

  replaced_keeps : (key : List ℕ) (new row : Property) → get books.properties key ≡ Some row → new.branch ≡ row.branch
      → RunInMonths size (record books { properties = insert books.properties key new }) run
  replaced_keeps key new row is stays =
      properties_keep size books run (insert books.properties key new) (same_property books key new row is stays) in_order

  turned_keeps : (rows : Change) (a : Accepted books run rows) → RunInMonths size (turned books run rows a) (run_after run rows)
  turned_keeps (change.Branch it) a = where_closed (changed (change.Branch it) books) a.fits (branch_keeps size books it.number it names)
  turned_keeps (change.Property it) a =
      properties_keep size books run (insert books.properties it.number it) (new_property books it.number it names a.known) in_order
  turned_keeps (change.Assign it) a = replaced_keeps it.property (record a.row { staff = it.staff }) a.row a.is refl
  turned_keeps (change.Rent it) a = replaced_keeps it.property (record a.row { rent = it.rent }) a.row a.is refl
  turned_keeps (change.Lease it) a =
      where_closed (changed (change.Lease it) books) a.fits.closed (lease_keeps size books it.terms.number it (keyed Kind.Runs) a.known a.fits.in_time)
  turned_keeps (change.NewEnding it) a = where_closed (changed (change.NewEnding it) books) a.fits.closed (ending_keeps books keyed run it a.fits size)
  turned_keeps (change.Ending it) a = where_closed (changed (change.Ending it) books) a.fits.closed (ending_keeps books keyed run it a.fits size)
  turned_keeps (change.Open it) a =
      open_keeps size books it (keyed Kind.Runs) (subst (RunInMonths size books) a.closed in_order) a.month a.is_open a.count a.total
  turned_keeps other a =
      let c = turned books run other a in
      free_keeps size books c refl run refl refl refl refl (λ month. untouched books c month refl refl refl refl refl refl) in_order

  pub changes_keep_months : (rows : Change) → Accepted books run rows → RunInMonths size (changed rows books) (run_after run rows)
  changes_keep_months rows a = subst (λ c. RunInMonths size c (run_after run rows)) (turned_is books run rows a) (turned_keeps rows a)

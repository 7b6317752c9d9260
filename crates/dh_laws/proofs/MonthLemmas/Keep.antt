-- Runs, months and the open run, where rows are added.
use Rattle.std.proofs.Common.{◌≡◌, refl, sym, ap, subst, ℕ, ◌≤◌, false, not, nat_eq, List, Option, Some, None, arith}
use Rattle.std.specs.List.{IsAmong, filter, find}
use Rattle.std.specs.FinMap.{FinMap, get, insert, values}
use Rattle.dh_types.specs.declared.branch.Branch.{Branch}
use Rattle.dh_types.specs.declared.property.Property.{Property}
use Rattle.dh_types.specs.declared.run.Run.{Run}
use Rattle.dh_model.specs.declared.open_run.OpenRun.{OpenRun}
use Rattle.dh_model.specs.Books.{Books, text_cmp}
use Rattle.dh_model.specs.Leases.{dues_among}
use Rattle.dh_model.specs.Runs.{is_property_of}
use Rattle.dh_model.specs.Rules.{IsThere, MonthsInOrder, NamesWhatIsThere, RunsInOrder, charges_in, parts_in}
use Rattle.dh_model.specs.Whole.{IsOpenAt, open_row}
use Rattle.dh_model.proofs.Among.{Among, among}
use Rattle.dh_laws.proofs.MonthLemmas.Alike.{SameBatches, SameMonth, closed_alike, have_instead, have_same, open_alike, posted_alike}
use Rattle.dh_laws.proofs.MonthLemmas.Dues.{StandAsBefore, branch_after_property, owing_is_there}
use Rattle.dh_laws.proofs.MonthLemmas.Shown.{all_closed}

-- the runs are the months up to the next one, charged as they say, and this one is open
pub record RunInMonths (size : ℕ) (books : Books) (run : Option OpenRun) : Type 0 where
  pub runs : RunsInOrder books
  pub months : MonthsInOrder books size
  pub shown : IsOpenAt size books run

-- of a month nothing is added
pub untouched : (b c : Books) (month : ℕ) → c.leases ≡ b.leases → c.endings ≡ b.endings → c.properties ≡ b.properties → c.branches ≡ b.branches
    → c.charges ≡ b.charges
    → c.parts ≡ b.parts → SameBatches b c month
untouched b c month leases endings properties branches charges parts = record {
  same = record {
    charges = have_instead (charges_in b month) (charges_in b month) (charges_in c month) (charges_in b month)
        (ap (λ rows. filter (λ charge. nat_eq charge.month month) (values rows)) charges) refl (have_same (charges_in b month));
    parts = have_instead (parts_in b month) (parts_in b month) (parts_in c month) (parts_in b month)
        (ap (λ rows. filter (λ part. nat_eq part.month month) (values rows)) parts) refl (have_same (parts_in b month));
    part = λ branch h. subst (λ rows. IsThere rows (month, branch)) (sym parts) h;
    branches = λ branch h owing. subst (λ rows. IsThere rows branch) branches h;
    dues = λ i. dues_among (endings i) (values (leases i)) month;
    of_branch = λ branch i. dues_among (endings i) (filter (λ lease. is_property_of branch (get (properties i) lease.terms.property))
        (values (leases i))) month;
  };
  branches = branches;
}

module _ (size : ℕ) (b c : Books) (runs : c.runs ≡ b.runs) where
  pub runs_kept : c.first ≡ b.first → c.next ≡ b.next → RunsInOrder b → RunsInOrder c
  runs_kept first next in_order = record {
    months = subst (λ n. n ≤ c.next) (sym first) (subst (λ n. b.first ≤ n) (sym next) in_order.months);
    run = λ month. (
      λ h. let within = (in_order.run month).0 (subst (λ rows. IsThere rows month) runs h) in (omega (arith, within.0, first), omega (arith, within.1, next)),
      λ h. subst (λ rows. IsThere rows month) (sym runs) ((in_order.run month).1 (omega (arith, h.0, first), omega (arith, h.1, next))),
    );
    closed = λ run a before. in_order.closed run (subst (λ rows. IsAmong (values rows) run) runs a) (omega (arith, before, next));
  }

  pub months_kept : c.charges ≡ b.charges → c.parts ≡ b.parts
      → ((run : Run) → Among (values b.runs) run → SameMonth b c run.month)
      → ((run : Run) → Among (values b.runs) run → run.is_closed ≡ false → SameBatches b c run.month)
      → MonthsInOrder b size → MonthsInOrder c size
  months_kept charges parts same same_open in_order =
      let was = λ (run : Run) (a : IsAmong (values c.runs) run). subst (λ rows. IsAmong (values rows) run) runs a in record {
        closed = λ run a is. closed_alike b c run (same run (among (values b.runs) run (was run a))) (in_order.closed run (was run a) is);
        under_way = λ run a is. open_alike size b c run (same_open run (among (values b.runs) run (was run a)) is) (in_order.under_way run (was run a) is);
        charged = λ charge a. subst (λ rows. IsThere rows charge.month) (sym runs)
            (in_order.charged charge (subst (λ rows. IsAmong (values rows) charge) charges a));
        summed = λ part a. subst (λ rows. IsThere rows part.month) (sym runs) (in_order.summed part (subst (λ rows. IsAmong (values rows) part) parts a));
      }

  shown_none : open_row b ≡ None → open_row c ≡ None
  shown_none e = subst (λ rows. find (λ run. not run.is_closed) (values rows) ≡ None) (sym runs) e

  shown_some : (row : Run) → open_row b ≡ Some row → open_row c ≡ Some row
  shown_some row e = subst (λ rows. find (λ run. not run.is_closed) (values rows) ≡ Some row) (sym runs) e

  pub shown_kept : (run : Option OpenRun) → ((month : ℕ) → SameBatches b c month) → IsOpenAt size b run → IsOpenAt size c run
  shown_kept None same shown = shown_none shown
  shown_kept (Some at) same shown = (shown.0, shown_some shown.0 shown.1, shown.2, posted_alike size b c at.month (same at.month) at.done shown.3)

  -- where nothing of a month is touched
  pub free_keeps : (run : Option OpenRun) → c.first ≡ b.first → c.next ≡ b.next → c.charges ≡ b.charges → c.parts ≡ b.parts
      → ((month : ℕ) → SameBatches b c month) → RunInMonths size b run → RunInMonths size c run
  free_keeps run first next charges parts same in_order = record {
    runs = runs_kept first next in_order.runs;
    months = months_kept charges parts (λ row a. (same row.month).same) (λ row a is. same row.month) in_order.months;
    shown = shown_kept run same in_order.shown;
  }

  no_run_open : open_row b ≡ None → (run : Run) → Among (values b.runs) run → run.is_closed ≡ false → ⊥
  no_run_open none run a is = let closed = all_closed b none run a in cc

  -- where no run is open, it does that the closed months are left
  pub frozen_keeps : c.first ≡ b.first → c.next ≡ b.next → c.charges ≡ b.charges → c.parts ≡ b.parts
      → ((run : Run) → Among (values b.runs) run → SameMonth b c run.month) → RunInMonths size b None → RunInMonths size c None
  frozen_keeps first next charges parts same in_order = record {
    runs = runs_kept first next in_order.runs;
    months = months_kept charges parts same (λ run a is. absurd (no_run_open in_order.shown run a is)) in_order.months;
    shown = shown_none in_order.shown;
  }

-- properties that stand as before
pub properties_alike : (b : Books) (properties : FinMap text_cmp Property) → StandAsBefore b properties → (month : ℕ)
    → SameBatches b (record b { properties = properties }) month
properties_alike b properties stand month = record {
  same = record {
    charges = have_same (charges_in b month);
    parts = have_same (parts_in b month);
    part = λ branch h. h;
    branches = λ branch h owing. h;
    dues = refl;
    of_branch = branch_after_property b properties stand month;
  };
  branches = refl;
}

module _ (size : ℕ) (b : Books) where
  pub properties_keep : (run : Option OpenRun) (properties : FinMap text_cmp Property) → StandAsBefore b properties → RunInMonths size b run
      → RunInMonths size (record b { properties = properties }) run
  properties_keep run properties stand in_order =
      let c : Books = record b { properties = properties } in
      free_keeps size b c refl run refl refl refl refl (properties_alike b properties stand) in_order

  pub branch_keeps : (number : List ℕ) (branch : Branch) → NamesWhatIsThere b → RunInMonths size b None
      → RunInMonths size (record b { branches = insert b.branches number branch }) None
  branch_keeps number branch names in_order =
      let c : Books = record b { branches = insert b.branches number branch } in
      frozen_keeps size b c refl refl refl refl refl (λ run a. record {
        charges = have_same (charges_in b run.month);
        parts = have_same (parts_in b run.month);
        part = λ branch h. h;
        branches = λ branch h owing. owing_is_there b run.month branch names owing;
        dues = refl;
        of_branch = λ branch. refl;
      }) in_order

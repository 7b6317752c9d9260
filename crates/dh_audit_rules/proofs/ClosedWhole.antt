-- Closed months are in order exactly where their rows, each by itself, are.
use Rattle.std.proofs.Common.{◌≡◌, ◌≢◌, ◌↔◌, ◌∙◌, refl, sym, ap, subst, inl, ℕ, true, nat_eq, List, [], ◌∷◌, map, length, Option, Some, None, IfSome}
use Rattle.std.specs.BTreeSet as set
use Rattle.std.specs.List.{IsAmong, filter}
use Rattle.std.specs.Ordering.{nat_cmp}
use Rattle.std.specs.FinMap.{values}
use Rattle.std.proofs.lemmas.Bool.{and_parts, false≢true}
use Rattle.dh_types.specs.declared.lease.Charge.{Charge}
use Rattle.dh_types.specs.declared.run.Run.{Run}
use Rattle.dh_types.specs.declared.run.Part.{Part}
use Rattle.dh_types.proofs.SameValues.{numbers, texts}
use Rattle.dh_model.specs.Books.{Books}
use Rattle.dh_model.specs.Leases.{dues}
use Rattle.dh_model.specs.Runs.{dues_of_branch, part_of, total_of}
use Rattle.dh_model.specs.Rules.{Each, HaveTheSame, IsThere, MonthIsClosed, charges_in, parts_in}
use Rattle.dh_model.proofs.Among.{Among, among, in_filter, in_map, is_among, of_filter, of_map}
use Rattle.dh_audit_rules.specs.declared.closed_dues.Due.{Due}
use Rattle.dh_audit_rules.specs.declared.closed_sums.Sum.{Sum}
use Rattle.dh_audit_rules.specs.ClosedMonths.{DuesHaveParts, IsOf, IsSumIfOf, RunsAreSums, all_dues, charges_of_branch, charges_of_month, charges_of_months}
use Rattle.dh_audit_rules.specs.ClosedMonths.{closed_months, dues_of_months, is_at_branch, is_in, sum_of, sum_of_part}
use Rattle.dh_audit_rules.proofs.ClosedDues.{branch_of_all, charge_of, month_of_all}
use Rattle.dh_audit_rules.proofs.ClosedSums.{at_key, branch_tells, is_under}

abbrev part_with : ℕ → List ℕ → Sum → Part
part_with month branch sum = record { month = month; branch = branch; through = sum.through; count = sum.count; total = sum.total }

part_from : (part : Part) (charges : List Charge) → sum_of_part part ≡ sum_of charges → part ≡ part_of part.month part.branch charges
part_from part charges e = ap (part_with part.month part.branch) e

of_part_from : (part : Part) (charges : List Charge) → part ≡ part_of part.month part.branch charges → sum_of_part part ≡ sum_of charges
of_part_from part charges e = ap sum_of_part e

some_of : {X : Type 0} (xs : List X) → xs ≢ [] → (x : X) × Among xs x
some_of [] differs = absurd (differs refl)
some_of (x ∷ xs) differs = (x, inl refl)

none_of : {X : Type 0} (xs : List X) (x : X) → Among xs x → xs ≡ [] → ⊥
none_of xs x a e = let no : Among [] x = subst (λ ys. Among ys x) e a in no

if_some : (o : Option (List ℕ)) (P : List ℕ → Type 0) → ((branch : List ℕ) → o ≡ Some branch → P branch) → IfSome o P
if_some None P h = tt
if_some (Some branch) P h = h branch refl

at_branch : (o : Option (List ℕ)) (P : List ℕ → Type 0) (branch : List ℕ) → is_at_branch branch o ≡ true → IfSome o P → P branch
at_branch None P branch e h = absurd (false≢true e)
at_branch (Some other) P branch e h = subst P ((texts other branch).0 e) h

module _ (books : Books) (months : set.BTreeSet ℕ) (are : (month : ℕ) → IsOf months month ↔ IsAmong (closed_months books) month) (ds : List Due)
    (all_are : ds ≡ all_dues books) where
  abbrev AllClosed : Type 0
  AllClosed = Each books.runs (λ run. run.is_closed ≡ true → MonthIsClosed books run)

  abbrev month_sum : ℕ → Sum
  month_sum month = sum_of (charges_of_month ds month)

  abbrev branch_sum : ℕ × List ℕ → Sum
  branch_sum key = sum_of (charges_of_branch ds key)

  abbrev SameCharges : Type 0
  SameCharges = HaveTheSame (charges_of_months books months) (dues_of_months ds months)

  -- ---- months of closed runs

  record ClosedRun (month : ℕ) : Type 0 where
    run : Run
    is : IsAmong (values books.runs) run
    closed : run.is_closed ≡ true
    month_is : run.month ≡ month

  closed_run : (month : ℕ) → IsOf months month → ClosedRun month
  closed_run month h =
      let of = in_map (λ run. run.month) (filter (λ run. run.is_closed) (values books.runs)) month (among (closed_months books) month ((are month).0 h)) in
      let kept = in_filter (λ run. run.is_closed) (values books.runs) of.0 of.1 in
      record { run = of.0; is = is_among (values books.runs) of.0 kept.0; closed = kept.1; month_is = sym of.2 }

  month_in : (run : Run) → IsAmong (values books.runs) run → run.is_closed ≡ true → IsOf months run.month
  month_in run a closed =
      (are run.month).1 (is_among (closed_months books) run.month (of_map (λ run. run.month) (filter (λ run. run.is_closed) (values books.runs)) run
      (of_filter (λ run. run.is_closed) (values books.runs) run closed (among (values books.runs) run a))))

  -- ---- what falls due in a month, and at a branch

  month_charges : (month : ℕ) → charges_of_month ds month ≡ dues books month
  month_charges month = ap (λ ds. charges_of_month ds month) all_are ∙ month_of_all books month

  branch_charges : (month : ℕ) (branch : List ℕ) → charges_of_branch ds (month, branch) ≡ dues_of_branch books month branch
  branch_charges month branch = ap (λ ds. charges_of_branch ds (month, branch)) all_are ∙ branch_of_all books month branch

  falls_due : (charge : Charge) → Among (map charge_of ds) charge → IsAmong (dues books charge.month) charge
  falls_due charge a =
      let of = in_map charge_of ds charge a in
      let due = of.0 in
      let month = due.charge.month in
      let there : IsAmong (dues books month) due.charge = subst (λ cs. IsAmong cs due.charge) (month_charges month)
      (is_among (charges_of_month ds month) due.charge
      (of_map charge_of (filter (is_in month) ds) due (of_filter (is_in month) ds due ((numbers month month).1 refl) of.1))) in
      subst (λ (c : Charge). IsAmong (dues books c.month) c) (sym of.2) there

  -- the due of a charge that falls due in the month
  record DueOf (month : ℕ) (charge : Charge) : Type 0 where
    due : Due
    is : IsAmong ds due
    charge_is : charge ≡ due.charge
    month_is : due.charge.month ≡ month

  due_of : (month : ℕ) (charge : Charge) → IsAmong (dues books month) charge → DueOf month charge
  due_of month charge a =
      let of = in_map charge_of (filter (is_in month) ds) charge
      (among (charges_of_month ds month) charge (subst (λ cs. IsAmong cs charge) (sym (month_charges month)) a)) in
      let kept = in_filter (is_in month) ds of.0 of.1 in
      record { due = of.0; is = is_among ds of.0 kept.0; charge_is = of.2; month_is = (numbers of.0.charge.month month).0 kept.1 }

  -- ---- charges

  charge_in : (charge : Charge) (month : ℕ) → IsAmong (values books.charges) charge → charge.month ≡ month → IsAmong (charges_in books month) charge
  charge_in charge month a e =
      is_among (charges_in books month) charge (of_filter (λ charge. nat_eq charge.month month) (values books.charges) charge ((numbers charge.month month).1 e)
      (among (values books.charges) charge a))

  in_charges : (charge : Charge) (month : ℕ) → IsAmong (charges_in books month) charge → IsAmong (values books.charges) charge × (charge.month ≡ month)
  in_charges charge month a =
      let kept = in_filter (λ charge. nat_eq charge.month month) (values books.charges) charge (among (charges_in books month) charge a) in
      (is_among (values books.charges) charge kept.0, (numbers charge.month month).0 kept.1)

  charges_at : AllClosed → (month : ℕ) → IsOf months month → HaveTheSame (charges_in books month) (dues books month)
  charges_at all month h =
      let r = closed_run month h in
      subst (λ m. HaveTheSame (charges_in books m) (dues books m)) r.month_is (all r.run r.is r.closed).charges

  pub all_charges : AllClosed → SameCharges
  all_charges all = λ charge. (
    λ a.
        let kept = in_filter (λ charge. set.contains nat_cmp months charge.month) (values books.charges) charge
        (among (charges_of_months books months) charge a) in
        let d = due_of charge.month charge
        ((charges_at all charge.month kept.1 charge).0 (charge_in charge charge.month (is_among (values books.charges) charge kept.0) refl)) in
        is_among (dues_of_months ds months) charge (of_filter (λ charge. set.contains nat_cmp months charge.month) (map charge_of ds) charge kept.1
        (subst (Among (map charge_of ds)) (sym d.charge_is) (of_map charge_of ds d.due (among ds d.due d.is)))),
    λ a.
        let kept = in_filter (λ charge. set.contains nat_cmp months charge.month) (map charge_of ds) charge (among (dues_of_months ds months) charge a) in
        let row = in_charges charge charge.month ((charges_at all charge.month kept.1 charge).1 (falls_due charge kept.0)) in
        is_among (charges_of_months books months) charge (of_filter (λ charge. set.contains nat_cmp months charge.month) (values books.charges) charge kept.1
        (among (values books.charges) charge row.0)),
  )

  same_charges : SameCharges → (month : ℕ) → IsOf months month → HaveTheSame (charges_in books month) (dues books month)
  same_charges same month h = λ charge. (
    λ a.
        let kept = in_charges charge month a in
        let row : Among (charges_of_months books months) charge =
        of_filter (λ charge. set.contains nat_cmp months charge.month) (values books.charges) charge (subst (IsOf months) (sym kept.1) h)
        (among (values books.charges) charge kept.0) in
        let due = in_filter (λ charge. set.contains nat_cmp months charge.month) (map charge_of ds) charge
        (among (dues_of_months ds months) charge ((same charge).0 (is_among (charges_of_months books months) charge row))) in
        subst (λ m. IsAmong (dues books m) charge) kept.1 (falls_due charge due.0),
    λ a.
        let d = due_of month charge a in
        let month_is : charge.month ≡ month = ap (λ (c : Charge). c.month) d.charge_is ∙ d.month_is in
        let due : Among (dues_of_months ds months) charge =
        of_filter (λ charge. set.contains nat_cmp months charge.month) (map charge_of ds) charge (subst (IsOf months) (sym month_is) h)
        (subst (Among (map charge_of ds)) (sym d.charge_is) (of_map charge_of ds d.due (among ds d.due d.is))) in
        let row = in_filter (λ charge. set.contains nat_cmp months charge.month) (values books.charges) charge
        (among (charges_of_months books months) charge ((same charge).1 (is_among (dues_of_months ds months) charge due))) in
        charge_in charge month (is_among (values books.charges) charge row.0) month_is,
  )

  -- ---- parts

  part_in : (part : Part) (month : ℕ) → IsAmong (values books.parts) part → part.month ≡ month → IsAmong (parts_in books month) part
  part_in part month a e =
      is_among (parts_in books month) part (of_filter (λ part. nat_eq part.month month) (values books.parts) part ((numbers part.month month).1 e)
      (among (values books.parts) part a))

  in_parts : (part : Part) (month : ℕ) → IsAmong (parts_in books month) part → IsAmong (values books.parts) part × (part.month ≡ month)
  in_parts part month a =
      let kept = in_filter (λ part. nat_eq part.month month) (values books.parts) part (among (parts_in books month) part a) in
      (is_among (values books.parts) part kept.0, (numbers part.month month).0 kept.1)

  abbrev PartsAt : ℕ → Type 0
  PartsAt month = (part : Part) → IsAmong (parts_in books month) part → part ≡ part_of month part.branch (dues_of_branch books month part.branch)

  pub parts_sums : AllClosed → Each books.parts (IsSumIfOf months branch_sum)
  parts_sums all = λ part a h.
      let r = closed_run part.month h in
      let parts : PartsAt part.month = subst PartsAt r.month_is (all r.run r.is r.closed).parts in
      of_part_from part (dues_of_branch books part.month part.branch) (parts part (part_in part part.month a refl))
      ∙ ap sum_of (sym (branch_charges part.month part.branch))

  parts_at : Each books.parts (IsSumIfOf months branch_sum) → (month : ℕ) → IsOf months month → PartsAt month
  parts_at sums month h = λ part a.
      let kept = in_parts part month a in
      let is : part ≡ part_of part.month part.branch (dues_of_branch books part.month part.branch) =
      part_from part (dues_of_branch books part.month part.branch) (sums part kept.0 (subst (IsOf months) (sym kept.1) h)
      ∙ ap sum_of (branch_charges part.month part.branch)) in
      subst (λ m. part ≡ part_of m part.branch (dues_of_branch books m part.branch)) kept.1 is

  abbrev AllPartsAt : ℕ → Type 0
  AllPartsAt month = (branch : List ℕ) → IsThere books.branches branch → dues_of_branch books month branch ≢ [] → IsThere books.parts (month, branch)

  here : (due : Due) (branch : List ℕ) → IsAmong ds due → due.branch ≡ Some branch → Among (dues_of_branch books due.charge.month branch) due.charge
  here due branch a is =
      let month = due.charge.month in
      subst (λ cs. Among cs due.charge) (branch_charges month branch)
      (of_map charge_of (filter (is_under (at_key month branch)) ds) due
      (of_filter (is_under (at_key month branch)) ds due ((branch_tells due branch is (at_key month branch)).1 refl) (among ds due a)))

  abbrev HasItsPart : ℕ → List ℕ → Type 0
  HasItsPart month branch = IsThere books.branches branch → IsThere books.parts (month, branch)

  pub dues_parts : AllClosed → DuesHaveParts books ds months
  dues_parts all = λ due a h.
      let month = due.charge.month in
      let r = closed_run month h in
      let parts : AllPartsAt month = subst AllPartsAt r.month_is (all r.run r.is r.closed).all_parts in
      if_some due.branch (HasItsPart month)
      (λ branch is there. parts branch there (none_of (dues_of_branch books month branch) due.charge (here due branch a is)))

  all_parts_at : DuesHaveParts books ds months → (month : ℕ) → IsOf months month → AllPartsAt month
  all_parts_at have month h = λ branch there some.
      let one = some_of (dues_of_branch books month branch) some in
      let of = in_map charge_of (filter (is_under (at_key month branch)) ds) one.0 (subst (λ cs. Among cs one.0) (sym (branch_charges month branch)) one.1) in
      let due = of.0 in
      let kept = in_filter (is_under (at_key month branch)) ds due of.1 in
      let passes = and_parts (nat_eq due.charge.month month) (is_at_branch branch due.branch) kept.1 in
      let month_is : due.charge.month ≡ month = (numbers due.charge.month month).0 passes.0 in
      let part : IsThere books.parts (due.charge.month, branch) =
      at_branch due.branch (HasItsPart due.charge.month) branch passes.1 (have due (is_among ds due kept.0) (subst (IsOf months) (sym month_is) h)) there in
      subst (λ m. IsThere books.parts (m, branch)) month_is part

  -- ---- the run, and all

  pub runs_sums : AllClosed → RunsAreSums books month_sum
  runs_sums all = λ run a closed.
      let it = all run a closed in
      let charges = sym (month_charges run.month) in
      record { count = it.count ∙ ap (λ (cs : List Charge). length cs) charges; total = it.total ∙ ap total_of charges }

  pub all_closed : RunsAreSums books month_sum → Each books.parts (IsSumIfOf months branch_sum) → DuesHaveParts books ds months → SameCharges → AllClosed
  all_closed runs parts have same = λ run a closed.
      let h = month_in run a closed in
      let it = runs run a closed in
      let charges = month_charges run.month in
      record {
        charges = same_charges same run.month h;
        parts = parts_at parts run.month h;
        all_parts = all_parts_at have run.month h;
        count = it.count ∙ ap (λ (cs : List Charge). length cs) charges;
        total = it.total ∙ ap total_of charges;
      }

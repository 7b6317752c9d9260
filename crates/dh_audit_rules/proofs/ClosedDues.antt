-- All that ever falls due, against what falls due in a month.
use Rattle.std.proofs.Common.{◌≡◌, ◌∙◌, refl, sym, ap, ℕ, suc, ◌+◌, ◌-◌, ◌<◌, ◌≤◌, Bool, true, false, cond, ◌&&◌, nat_eq, List, [], ◌∷◌, ◌++◌, map, Option}
use Rattle.std.proofs.Common.{Some, None, append_assoc, arith}
use Rattle.std.specs.List.{filter, flat_map, range_with_len}
use Rattle.std.specs.FinMap.{get, values}
use Rattle.std.proofs.lemmas.List.{map-append}
use Rattle.std.proofs.lemmas.List.Elements.{filter-append}
use Rattle.dh_days.specs.Days.{month_of_day, plus_months}
use Rattle.dh_types.specs.declared.property.Property.{Property}
use Rattle.dh_types.specs.declared.lease.Lease.{Lease}
use Rattle.dh_types.specs.declared.lease.Charge.{Charge}
use Rattle.dh_model.specs.Books.{Books, Endings}
use Rattle.dh_model.specs.Leases.{due, dues, dues_among, dues_of, length_of}
use Rattle.dh_model.specs.Runs.{dues_of_branch, is_property_of}
use Rattle.dh_model.proofs.DueLemmas.{falls_in}
use Rattle.dh_leases.proofs.DueIn.{its_due}
use Rattle.dh_audit_rules.specs.declared.closed_dues.Due.{Due}
use Rattle.dh_audit_rules.specs.ClosedMonths.{all_dues, branch_in, charges_of_branch, charges_of_month, due_at, dues_at, is_at_branch, is_in}

abbrev pub charge_of : Due → Charge
charge_of due = due.charge

module _ (p : Charge → Bool) where
  charge_kept : (b : Bool) (due : Due) (ds : List Due) → map charge_of (cond b (due ∷ ds) ds) ≡ cond b (due.charge ∷ map charge_of ds) (map charge_of ds)
  charge_kept true due ds = refl
  charge_kept false due ds = refl

  charges_kept : (ds : List Due) → map charge_of (filter (λ due. p due.charge) ds) ≡ filter p (map charge_of ds)
  charges_kept [] = refl
  charges_kept (due ∷ ds) =
      charge_kept (p due.charge) due (filter (λ due. p due.charge) ds)
      ∙ ap (λ cs. cond (p due.charge) (due.charge ∷ cs) cs) (charges_kept ds)

charges_at : (branch : Option (List ℕ)) (cs : List Charge) → map charge_of (map (due_at branch) cs) ≡ cs
charges_at branch [] = refl
charges_at branch (c ∷ cs) = ap (λ ds. c ∷ ds) (charges_at branch cs)

module _ (books : Books) where
  abbrev place_of : Lease → Option (List ℕ)
  place_of lease = branch_in (get books.properties lease.terms.property)

  charges_of_all : (leases : List Lease) → map charge_of (flat_map (dues_at books) leases) ≡ flat_map (dues_of books.endings) leases
  charges_of_all [] = refl
  charges_of_all (lease ∷ leases) =
      map-append charge_of (dues_at books lease) (flat_map (dues_at books) leases)
      ∙ ap (λ cs. cs ++ map charge_of (flat_map (dues_at books) leases)) (charges_at (place_of lease) (dues_of books.endings lease))
      ∙ ap (λ cs. dues_of books.endings lease ++ cs) (charges_of_all leases)

  -- of all dues, those of a month are what falls due then
  pub month_of_all : (month : ℕ) → charges_of_month (all_dues books) month ≡ dues books month
  month_of_all month =
      charges_kept (falls_in month) (all_dues books) ∙ ap (filter (falls_in month)) (charges_of_all (values books.leases))

  same_place : (branch : List ℕ) (o : Option Property) → is_at_branch branch (branch_in o) ≡ is_property_of branch o
  same_place branch None = refl
  same_place branch (Some property) = refl

  module _ (month : ℕ) (branch : List ℕ) where
    abbrev falls_here : Due → Bool
    falls_here due = is_in month due && is_at_branch branch due.branch

    abbrev of_branch : Lease → Bool
    of_branch lease = is_property_of branch (get books.properties lease.terms.property)

    none_kept : (b : Bool) → [] ≡ (let cs : List Charge = cond b [] [] in cs)
    none_kept true = refl
    none_kept false = refl

    one_kept : (b a : Bool) (due : Due) (ds : List Due) (cs : List Charge) → map charge_of ds ≡ cond b cs []
        → map charge_of (cond (a && b) (due ∷ ds) ds) ≡ cond b (cond a (due.charge ∷ cs) cs) []
    one_kept true true due ds cs h = ap (λ es. due.charge ∷ es) h
    one_kept true false due ds cs h = h
    one_kept false true due ds cs h = h
    one_kept false false due ds cs h = h

    of_one_lease : (place : Option (List ℕ)) (b : Bool) → is_at_branch branch place ≡ b → (cs : List Charge)
        → map charge_of (filter falls_here (map (due_at place) cs)) ≡ cond b (filter (falls_in month) cs) []
    of_one_lease place b e [] = none_kept b
    of_one_lease place b e (c ∷ cs) =
        let rest = filter falls_here (map (due_at place) cs) in
        ap (λ a. map charge_of (cond (nat_eq c.month month && a) (due_at place c ∷ rest) rest)) e
        ∙ one_kept b (nat_eq c.month month) (due_at place c) rest (filter (falls_in month) cs) (of_one_lease place b e cs)

    with_lease : (b : Bool) (lease : Lease) (kept : List Lease) → cond b (filter (falls_in month) (dues_of books.endings lease)) []
        ++ dues_among books.endings kept month ≡ dues_among books.endings (cond b (lease ∷ kept) kept) month
    with_lease true lease kept = sym (filter-append (falls_in month) (dues_of books.endings lease) (flat_map (dues_of books.endings) kept))
    with_lease false lease kept = refl

    of_leases : (leases : List Lease) → map charge_of (filter falls_here (flat_map (dues_at books) leases))
        ≡ dues_among books.endings (filter of_branch leases) month
    of_leases [] = refl
    of_leases (lease ∷ leases) =
        ap (map charge_of) (filter-append falls_here (dues_at books lease) (flat_map (dues_at books) leases))
        ∙ map-append charge_of (filter falls_here (dues_at books lease)) (filter falls_here (flat_map (dues_at books) leases))
        ∙ ap (λ cs. cs ++ map charge_of (filter falls_here (flat_map (dues_at books) leases)))
        (of_one_lease (place_of lease) (of_branch lease) (same_place branch (get books.properties lease.terms.property)) (dues_of books.endings lease))
        ∙ ap (λ cs. cond (of_branch lease) (filter (falls_in month) (dues_of books.endings lease)) [] ++ cs) (of_leases leases)
        ∙ with_lease (of_branch lease) lease (filter of_branch leases)

    -- and those of a month at a branch are what falls due there
    pub branch_of_all : charges_of_branch (all_dues books) (month, branch) ≡ dues_of_branch books month branch
    branch_of_all = of_leases (values books.leases)

-- what falls due on the lease from an index on
abbrev pub left : Endings → Option (List ℕ) → Lease → ℕ → List Due
left endings branch lease i = map (due_at branch) (map (due lease) (range_with_len i (length_of endings lease - i)))

module _ (endings : Endings) (branch : Option (List ℕ)) (lease : Lease) where
  abbrev months : ℕ
  months = length_of endings lease

  pub left_all : left endings branch lease 0 ≡ map (due_at branch) (dues_of endings lease)
  left_all = let n : months - 0 ≡ months = omega arith in ap (λ n. map (due_at branch) (map (due lease) (range_with_len 0 n))) n

  pub left_none : (i : ℕ) → months ≤ i → left endings branch lease i ≡ []
  left_none i h = let n : months - i ≡ 0 = omega (arith, h) in ap (λ n. map (due_at branch) (map (due lease) (range_with_len i n))) n

  module _ (i : ℕ) (within : i < months) where
    left_first : left endings branch lease i ≡ due_at branch (due lease i) ∷ left endings branch lease (i + 1)
    left_first = let n : months - i ≡ suc (months - (i + 1)) = omega (arith, within) in
        ap (λ n. map (due_at branch) (map (due lease) (range_with_len i n))) n

    its : (month : ℕ) → month ≡ month_of_day lease.terms.start + i → due lease i ∷ [] ≡ dues_among endings (lease ∷ []) month
    its month is = its_due endings lease month i i (month_of_day lease.terms.start + i) (plus_months lease.terms.start i) (sym is) within refl (sym is) refl

    first_of : (x y : Charge) → x ∷ [] ≡ y ∷ [] → x ≡ y
    first_of x y e = cc

    none_of : (y : Charge) → [] ≡ y ∷ [] → ⊥
    none_of y e = cc

    pub some_due : (month : ℕ) → month ≡ month_of_day lease.terms.start + i → [] ≡ dues_among endings (lease ∷ []) month → ⊥
    some_due month is none = none_of (due lease i) (none ∙ sym (its month is))

    -- one due more at the end of what was made
    pub due_added : (old new all : List Due) (charge : Charge) (month : ℕ) → month ≡ month_of_day lease.terms.start + i → charge
        ∷ [] ≡ dues_among endings (lease ∷ []) month
        → new ≡ old ++ due_at branch charge ∷ [] → old ++ left endings branch lease i ≡ all → new ++ left endings branch lease (i + 1) ≡ all
    due_added old new all charge month is made added so_far =
        let same : charge ≡ due lease i = first_of charge (due lease i) (made ∙ sym (its month is)) in
        ap (λ ds. ds ++ left endings branch lease (i + 1)) (added ∙ ap (λ c. old ++ due_at branch c ∷ []) same)
        ∙ append_assoc old (due_at branch (due lease i) ∷ []) (left endings branch lease (i + 1))
        ∙ ap (λ ds. old ++ ds) (sym left_first) ∙ so_far

-- the dues of the first of the leases that are left, put at the end of what was made
pub dues_added : (f : Lease → List Due) (lease : Lease) (xs ys : List Lease) (made next all more : List Due) → xs ≡ lease ∷ ys → next ≡ made ++ more
    → more ≡ f lease → made ++ flat_map f xs ≡ all → next ++ flat_map f ys ≡ all
dues_added f lease xs ys made next all more front added same so_far =
    ap (λ ds. ds ++ flat_map f ys) (added ∙ ap (λ ds. made ++ ds) same) ∙ append_assoc made (f lease) (flat_map f ys)
    ∙ sym (ap (λ ls. made ++ flat_map f ls) front) ∙ so_far

-- The next batch adds the next charges.
use Rattle.std.proofs.Common.{◌≡◌, ◌⊎◌, ◌∙◌, refl, sym, ap, subst, inl, inr, ℕ, ◌+◌, ◌-◌, ◌*◌, ◌/◌, ◌<◌, ◌≤◌, Bool, true, false, cond, nat_lt, List, [], ◌∷◌}
use Rattle.std.proofs.Common.{length, Option, Some, None, Ordering, Less, Equal, Greater, is_lt, div-mul-le_self, le-add_right, arith}
use Rattle.std.specs.Ordering.{ordering_reverse}
use Rattle.std.specs.List.{count_by}
use Rattle.std.specs.FinMap.{get, keys, values}
use Rattle.std.proofs.lemmas.Bool.{cases_lt}
use Rattle.std.proofs.lemmas.Bool.Decides.{nat_tests}
use Rattle.std.proofs.lemmas.Nat.{div-mul-add, le-div}
use Rattle.std.proofs.lemmas.List.Sums.{sum_by-cons}
use Rattle.dh_types.specs.declared.lease.Charge.{Charge}
use Rattle.dh_types.specs.declared.run.Part.{Part}
use Rattle.dh_model.specs.Books.{Books, text_cmp}
use Rattle.dh_model.specs.Kinds.{Kind}
use Rattle.dh_model.specs.Runs.{batch_of, batches_before, batches_of_branch, charge_key, dues_of_branch, part_key, place_among, posted_charges}
use Rattle.dh_model.specs.Runs.{posted_parts}
use Rattle.dh_model.specs.Rules.{ArePosted, MeetsRules, charges_in, parts_in}
use Rattle.dh_model.specs.Whole.{with_posted}
use Rattle.dh_model.proofs.Among.{Among, among, is_among}
use Rattle.dh_model.proofs.BatchLemmas.{batch_begins, each_due_has_its_batch, places_numbered}
use Rattle.dh_model.proofs.BranchDues.{one_branch_of_due, branches_rise}
use Rattle.dh_model.proofs.BranchSums.{Holds, holder}
use Rattle.dh_model.proofs.KeyOrders.{nat_text_ties, nat_text_total, nats_tie, nats_total, text_ties, text_total}
use Rattle.dh_model.proofs.MapRows.{of_row, row_of}
use Rattle.dh_model.proofs.Rising.{numbered_at}
use Rattle.dh_laws.specs.InOrder.{AreKeyed}
use Rattle.dh_laws.specs.NextBatch.{IsCharged, IsDueOn, NextBatchAddsTheNext}
use Rattle.dh_laws.proofs.BatchLemmas.Charged.{charge_month, charges_fit, part_month}
use Rattle.dh_laws.proofs.BatchLemmas.Dues.{is_begun, is_posted, of_posted, owed_of_branch}
use Rattle.dh_laws.proofs.BatchLemmas.MonthRows.{in_rows, of_new, of_old, of_rows, same_or_other, value_of_replaced}
use Rattle.dh_laws.proofs.BatchLemmas.Small.{next_batch_is_small, own_is_before}

passes_too : (a b : Bool) → (a ≡ true → b ≡ true) → cond a 1 0 ≤ cond b 1 0
passes_too true true h = omega arith
passes_too true false h = let no : false ≡ true = h refl in absurd (cc)
passes_too false b h = omega arith

-- the weaker test counts no fewer
counted_too : {X : Type 0} (p q : X → Bool) (xs : List X) → ((x : X) → p x ≡ true → q x ≡ true) → count_by p xs ≤ count_by q xs
counted_too p q [] h = omega arith
counted_too p q (x ∷ xs) h =
    let fewer = sum_by-cons (λ y. cond (p y) 1 0) x xs in
    let more = sum_by-cons (λ y. cond (q y) 1 0) x xs in
    let rest = counted_too p q xs h in
    let first = passes_too (p x) (q x) (h x) in
    omega (arith, fewer, more, rest, first)

lesser_too : (n a b : ℕ) → a < b → nat_lt n a ≡ true → nat_lt n b ≡ true
lesser_too n a b less h = grind (arith, nat_tests)

no_more_batches : (m n k : ℕ) → 1 ≤ k → m ≤ n → m / k ≤ n / k
no_more_batches m n k pos h = let low = div-mul-le_self m k in le-div (m / k) n k pos (omega (arith, low, h))

module _ (size : ℕ) (books : Books) (month done : ℕ) (pos : 1 ≤ size) (keyed : AreKeyed books) (rules : MeetsRules books size)
    (posted : ArePosted books size month done) where
  abbrev after : Books
  after = with_posted size books month (done + 1)

  abbrev Charged : Charge → Type 0
  Charged charge = Among (values books.charges) charge

  -- what was posted is charged
  is_charged : (charge : Charge) → Among (posted_charges size books month done) charge → Charged charge
  is_charged charge a =
      (in_rows charge_key charge_month nats_total nats_tie books.charges month charge
      (among (charges_in books month) charge ((posted.charges charge).1 (is_among (posted_charges size books month done) charge a)))).0

  -- and what is charged in the month was posted
  of_charged : (charge : Charge) → Charged charge → charge.month ≡ month → Among (posted_charges size books month done) charge
  of_charged charge a is =
      among (posted_charges size books month done) charge
      ((posted.charges charge).0 (is_among (charges_in books month) charge
      (of_rows charge_key charge_month nats_total nats_tie books.charges month charge a is)))

  newly : (charge : Charge) → Among (posted_charges size books month (done + 1)) charge → Among (values after.charges) charge
  newly charge a =
      of_row nats_total nats_tie after.charges (charge_key charge) charge
      (of_new charge_key charge_month nats_total nats_tie books.charges month (posted_charges size books month (done + 1))
      (charges_fit size books keyed rules month (done + 1)) charge a)

  stays : (charge : Charge) → Charged charge → Among (values after.charges) charge
  stays charge a = elim (same_or_other charge.month month) [
    | inl own ↦
        let p = is_posted size books month done charge (of_charged charge a own) in
        let early = p.early in
        newly charge (of_posted size books month (done + 1) charge (record { branch = p.branch; of = p.of; due = p.due; early = omega (arith, early) }))
    | inr other ↦
        let at = row_of nats_total nats_tie books.charges charge a in
        of_row nats_total nats_tie after.charges at.0 charge
        (of_old charge_key charge_month nats_total nats_tie books.charges month (posted_charges size books month (done + 1))
        (charges_fit size books keyed rules month (done + 1)) at.0 charge at.1 other)
  ]

  was_or_posted : (charge : Charge) → Among (values after.charges) charge
      → Among (posted_charges size books month (done + 1)) charge ⊎ (Charged charge × (charge.month ≡ month → ⊥))
  was_or_posted charge a =
      value_of_replaced charge_key charge_month nats_total nats_tie books.charges month (posted_charges size books month (done + 1))
      (charges_fit size books keyed rules month (done + 1)) charge a

  abbrev before : List ℕ → ℕ
  before branch = batches_before size books month branch

  abbrev own : List ℕ → ℕ
  own branch = batches_of_branch size books month branch

  until : (branch : List ℕ) (charge : Charge) → Among (dues_of_branch books month branch) charge
      → batch_of size books month branch charge < before branch + own branch
  until branch charge a = each_due_has_its_batch size books month branch charge pos (keyed Kind.Leases) (is_among (dues_of_branch books month branch) charge a)

  from : (branch : List ℕ) (charge : Charge) → before branch ≤ batch_of size books month branch charge
  from branch charge = le-add_right (before branch) (place_among size (dues_of_branch books month branch) charge / size)

  -- a due that was not posted yet is of no batch that was
  not_early : (branch : List ℕ) (charge : Charge) → Among (dues_of_branch books month branch) charge → Charged charge
      → batch_of size books month branch charge < done
  not_early branch charge due a =
      let p = is_posted size books month done charge (of_charged charge a (owed_of_branch books month branch charge due).1) in
      subst (λ b. batch_of size books month b charge < done) (one_branch_of_due books month (keyed Kind.Leases) p.branch branch charge p.due due) p.early

  module _ (held : Holds (batches_of_branch size books month) text_cmp text_total (keys books.branches) done) where
    abbrev key : List ℕ
    key = held.key

    -- the branch of the next batch
    of_key : (r : Ordering) (branch : List ℕ) (charge : Charge) → text_cmp branch key ≡ r → Among (keys books.branches) branch
        → Among (dues_of_branch books month branch) charge
        → batch_of size books month branch charge ≡ done → branch ≡ key
    of_key Less branch charge e a due is =
        let all = own_is_before (batches_of_branch size books month) text_cmp text_total (keys books.branches) branch key a (ap is_lt e) in
        let last = until branch charge due in
        let first = held.from in
        absurd (omega (arith, all, last, first, is))
    of_key Equal branch charge e a due is = text_ties branch key e
    of_key Greater branch charge e a due is =
        let all = own_is_before (batches_of_branch size books month) text_cmp text_total (keys books.branches) key branch held.of
        (ap is_lt (text_total.antisymm key branch ∙ ap ordering_reverse e)) in
        let first = from branch charge in
        let last = held.until in
        absurd (omega (arith, all, first, last, is))

    new : (charge : Charge) → Among (values after.charges) charge → IsCharged books charge ⊎ IsDueOn books month key charge
    new charge a = elim (was_or_posted charge a) [
      | inl is ↦
          let p = is_posted size books month (done + 1) charge is in
          elim (cases_lt (batch_of size books month p.branch charge) done) [
            | inl less ↦
                inl (is_among (values books.charges) charge
                (is_charged charge (of_posted size books month done charge (record { branch = p.branch; of = p.of; due = p.due; early = less }))))
            | inr later ↦
                let last = p.early in
                let same = of_key (text_cmp p.branch key) p.branch charge refl p.of p.due (omega (arith, later, last)) in
                inr (subst (λ b. IsDueOn books month b charge) same (is_among (dues_of_branch books month p.branch) charge p.due))
          ]
      | inr old ↦ inl (is_among (values books.charges) charge old.0)
    ]

    lesser_done : (other : List ℕ) (charge : Charge) → Among (keys books.branches) other → text_cmp other key ≡ Less
        → Among (dues_of_branch books month other) charge → Charged charge
    lesser_done other charge a less due =
        let all = own_is_before (batches_of_branch size books month) text_cmp text_total (keys books.branches) other key a (ap is_lt less) in
        let last = until other charge due in
        let first = held.from in
        is_charged charge (of_posted size books month done charge (record { branch = other; of = a; due = due; early = omega (arith, all, last, first) }))

    by_lease : (charge later : Charge) → Among (dues_of_branch books month key) charge → Among (dues_of_branch books month key) later
        → charge.lease < later.lease
        → Among (values after.charges) later → Among (values after.charges) charge
    by_lease charge later due later_due less a =
        let dues = dues_of_branch books month key in
        let at_most : place_among size dues charge ≤ place_among size dues later =
        counted_too (λ (other : Charge). nat_lt other.lease charge.lease) (λ (other : Charge). nat_lt other.lease later.lease) dues
        (λ other h. lesser_too other.lease charge.lease later.lease less h) in
        let batches_at_most = no_more_batches (place_among size dues charge) (place_among size dues later) size pos at_most in
        let late : batch_of size books month key later < done + 1 = elim (was_or_posted later a) [
          | inl is ↦
              let p = is_posted size books month (done + 1) later is in
              subst (λ b. batch_of size books month b later < done + 1)
              (one_branch_of_due books month (keyed Kind.Leases) p.branch key later p.due later_due) p.early
          | inr old ↦ absurd (old.1 (owed_of_branch books month key later later_due).1)
        ] in
        newly charge (of_posted size books month (done + 1) charge
        (record { branch = key; of = held.of; due = due; early = omega (arith, batches_at_most, late) }))

    abbrev Lacks : Type 0
    Lacks = (get books.parts (month, key) ≡ None) ⊎ ((charge : Charge) × IsDueOn books month key charge × (IsCharged books charge → ⊥))

    -- where the batch is the branch's first, it has no part row yet
    no_part : (found : Option Part) → get books.parts (month, key) ≡ found → done ≤ before key → get books.parts (month, key) ≡ None
    no_part None e first = e
    no_part (Some part) e first =
        let under : part_key part ≡ (month, key) = keyed Kind.Parts (month, key) part e in
        let row = of_row nat_text_total nat_text_ties books.parts (month, key) part e in
        let here = of_rows part_key part_month nat_text_total nat_text_ties books.parts month part row (ap (λ (k : ℕ × List ℕ). k.0) under) in
        let there = among (posted_parts size books month done) part ((posted.parts part).0 (is_among (parts_in books month) part here)) in
        let b = is_begun size books month done part there in
        let same : b.branch ≡ key = sym (ap (λ (p : Part). p.branch) b.is) ∙ ap (λ (k : ℕ × List ℕ). k.1) under in
        let early : before key < done = subst (λ branch. before branch < done) same b.early in
        absurd (omega (arith, early, first))

    -- else one of its dues is of the batch
    lacks_due : before key < done → (charge : Charge) × IsDueOn books month key charge × (IsCharged books charge → ⊥)
    lacks_due begun =
        let dues = dues_of_branch books month key in
        let q = done - before key in
        let last = held.until in
        let begins = batch_begins size pos (length dues) q (omega (arith, begun)) (omega (arith, begun, last)) in
        let at = numbered_at (place_among size dues) 0 dues (q * size) (places_numbered size books month pos (keyed Kind.Leases) key) begins in
        let number : place_among size dues at.0 / size ≡ q = ap (λ n. n / size) at.2 ∙ ap (λ n. n / size) (omega arith) ∙ div-mul-add q size 0 pos in (
          at.0,
          is_among dues at.0 at.1,
          λ charged. let early = not_early key at.0 at.1 (among (values books.charges) at.0 charged) in absurd
              (omega (arith, early, number, begun)),
        )

    unfinished : Lacks
    unfinished = elim (cases_lt (before key) done) [
      | inl begun ↦ inr (lacks_due begun)
      | inr first ↦ inl (no_part (get books.parts (month, key)) refl first)
    ]

pub next_batch_adds_the_next : (size : ℕ) → NextBatchAddsTheNext size
next_batch_adds_the_next size books month done pos order more =
    let keyed = order.keyed in
    let rules = order.rules in
    let posted = order.shown.3 in
    let rise = branches_rise books in
    let held = holder (batches_of_branch size books month) text_cmp text_total (keys books.branches) done rise more in
    let now = values (with_posted size books month (done + 1)).charges in (
      held.key,
      record {
        there = is_among (keys books.branches) held.key held.of;
        stays = λ charge a. is_among now charge (stays size books month done pos keyed rules posted charge (among (values books.charges) charge a));
        new = λ charge a. new size books month done pos keyed rules posted held charge (among now charge a);
        few = next_batch_is_small size books month done pos order;
        lesser_done = λ other charge a less due.
            is_among (values books.charges) charge
            (lesser_done size books month done pos keyed rules posted held other charge (among (keys books.branches) other a) less
            (among (dues_of_branch books month other) charge due));
        unfinished = unfinished size books month done pos keyed rules posted held;
        by_lease = λ charge later due later_due less a.
            is_among now charge
            (by_lease size books month done pos keyed rules posted held charge later (among (dues_of_branch books month held.key) charge due)
            (among (dues_of_branch books month held.key) later later_due) less (among now later a));
      },
    )

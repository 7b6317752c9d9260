-- A batch has no more charges than the size.
use Rattle.std.proofs.Common.{◌≡◌, ◌∙◌, refl, sym, ap, subst, inl, inr, ℕ, ◌+◌, ◌/◌, ◌≤◌, Bool, true, false, cond, nat_eq, List, [], ◌∷◌, ◌++◌, length}
use Rattle.std.proofs.Common.{Ordering, Less, Equal, Greater, is_lt, le-add_right, length-append, arith}
use Rattle.std.specs.Ordering.{ordering_reverse}
use Rattle.std.specs.List.{filter, flat_map, sum_by}
use Rattle.std.specs.Cmp.{IsTotalOrder}
use Rattle.std.specs.FinMap.{keys, len, values}
use Rattle.std.proofs.lemmas.Bool.{cases_lt}
use Rattle.std.proofs.lemmas.Cmp.{tied_itself}
use Rattle.std.proofs.lemmas.List.Sums.{length-filter}
use Rattle.dh_types.specs.declared.lease.Charge.{Charge}
use Rattle.dh_types.proofs.SameValues.{numbers}
use Rattle.dh_model.specs.Books.{Books, text_cmp}
use Rattle.dh_model.specs.Kinds.{Kind}
use Rattle.dh_model.specs.Runs.{batch_of, batches_before, batches_of_branch, charge_key, dues_of_branch, place_among, posted_charges}
use Rattle.dh_model.specs.Rules.{ArePosted, MeetsRules, charges_in}
use Rattle.dh_model.specs.Whole.{with_posted}
use Rattle.dh_model.proofs.Among.{Among, among, in_filter, is_among, of_filter, of_flat_map, of_left, of_right}
use Rattle.dh_model.proofs.KeyOrders.{nats_tie, nats_total, text_ties, text_total}
use Rattle.dh_model.proofs.Rising.{IsBefore, Rises, rises_by}
use Rattle.dh_model.proofs.BatchLemmas.{each_due_has_its_batch, no_batch_is_too_large}
use Rattle.dh_model.proofs.BranchDues.{branches_rise}
use Rattle.dh_model.proofs.BranchSums.{own_is_among_all, sum_before}
use Rattle.dh_laws.specs.InOrder.{AreKeyed}
use Rattle.dh_laws.specs.Posting.{NextBatchIsSmall}
use Rattle.dh_model.proofs.MapRows.{is_less}
use Rattle.dh_laws.proofs.BatchLemmas.MonthRows.{in_rows, value_of_replaced}
use Rattle.dh_laws.proofs.BatchLemmas.Dues.{is_posted, of_posted}
use Rattle.dh_laws.proofs.BatchLemmas.Charged.{charge_month, charges_fit}
use Rattle.dh_laws.proofs.BatchLemmas.Counts.{Differ, at_most_one, no_longer, rows_counted, rows_differ}
use Rattle.dh_laws.proofs.BatchLemmas.Rules.{posted_keyed}

module _ {X : Type 0} (p q : X → Bool) (implies : (x : X) → p x ≡ true → q x ≡ true) where
  twice_first : (a b : Bool) (x : X) (xs : List X) → p x ≡ a → q x ≡ b → filter p (filter q xs) ≡ filter p xs
      → filter p (cond b (x ∷ filter q xs) (filter q xs)) ≡ cond a (x ∷ filter p xs) (filter p xs)
  twice_first a true x xs s t rest = ap (λ c. cond c (x ∷ filter p (filter q xs)) (filter p (filter q xs))) s ∙ ap (λ ys. cond a (x ∷ ys) ys) rest
  twice_first true false x xs s t rest = let yes = implies x s in cc
  twice_first false false x xs s t rest = rest

  -- the weaker test first changes nothing
  filter_twice : (xs : List X) → filter p (filter q xs) ≡ filter p xs
  filter_twice [] = refl
  filter_twice (x ∷ xs) = twice_first (p x) (q x) x xs refl refl (filter_twice xs)

module _ {K : Type 0} (f : K → ℕ) (R : K → K → Ordering) (o : IsTotalOrder R) where
  -- a lesser key's own are among those before a greater one
  pub own_is_before : (ks : List K) (a b : K) → Among ks a → IsBefore R a b → sum_before f R o ks a + f a ≤ sum_before f R o ks b
  own_is_before ks a b h less =
      let before : List K = filter (λ other. is_lt (R other b)) ks in
      let all = own_is_among_all f R o before a (of_filter (λ other. is_lt (R other b)) ks a less h) in
      let same : sum_by f (filter (λ other. is_lt (R other a)) before) ≡ sum_before f R o ks a =
      ap (sum_by f) (filter_twice (λ other. is_lt (R other a)) (λ other. is_lt (R other b))
      (λ x h. ap is_lt (o.trans x a b (is_less (R x a) h) (is_less (R a b) less))) ks) in
      omega (arith, all, same)

module _ (size : ℕ) (books : Books) (month : ℕ) where
  -- the branch's charges of the batch
  abbrev pub batch_at : ℕ → List ℕ → List Charge
  batch_at number branch = filter (λ charge. nat_eq (batch_of size books month branch charge) number) (dues_of_branch books month branch)

  module _ (pos : 1 ≤ size) (keyed : AreKeyed books) where
    number_of_batch : (number : ℕ) (branch : List ℕ) (charge : Charge) → Among (batch_at number branch) charge
        → Among (dues_of_branch books month branch) charge × (batch_of size books month branch charge ≡ number)
    number_of_batch number branch charge a =
        let kept = in_filter (λ charge. nat_eq (batch_of size books month branch charge) number) (dues_of_branch books month branch) charge a in
        (kept.0, (numbers (batch_of size books month branch charge) number).0 kept.1)

    -- a branch's batches come before those of a greater one
    earlier : (number : ℕ) (a b : List ℕ) (x y : Charge) → Among (keys books.branches) a → IsBefore text_cmp a b → Among (batch_at number a) x
        → Among (batch_at number b) y → ⊥
    earlier number a b x y h less p q =
        let own = own_is_before (batches_of_branch size books month) text_cmp text_total (keys books.branches) a b h less in
        let first = number_of_batch number a x p in
        let second = number_of_batch number b y q in
        let until = each_due_has_its_batch size books month a x pos (keyed Kind.Leases) (is_among (dues_of_branch books month a) x first.0) in
        let from : batches_before size books month b ≤ batch_of size books month b y =
        le-add_right (batches_before size books month b) (place_among size (dues_of_branch books month b) y / size) in
        omega (arith, own, until, from, first.1, second.1)

    by_order : (r : Ordering) (number : ℕ) (a b : List ℕ) (x y : Charge) → text_cmp a b ≡ r → Among (keys books.branches) a → Among (keys books.branches) b
        → Among (batch_at number a) x → Among (batch_at number b) y → a ≡ b
    by_order Less number a b x y e h g p q = absurd (earlier number a b x y h (ap is_lt e) p q)
    by_order Equal number a b x y e h g p q = text_ties a b e
    by_order Greater number a b x y e h g p q = absurd (earlier number b a y x g (ap is_lt (text_total.antisymm b a ∙ ap ordering_reverse e)) q p)

    small : (number : ℕ) (branch : List ℕ) → length (batch_at number branch) ≤ size
    small number branch =
        let count = length-filter (λ charge. nat_eq (batch_of size books month branch charge) number) (dues_of_branch books month branch) in
        let few = no_batch_is_too_large size books month branch number pos (keyed Kind.Leases) in
        omega (arith, count, few)

    keys_differ : Rises Differ (keys books.branches)
    keys_differ =
        rises_by (IsBefore text_cmp) Differ
        (λ x y before same. let itself : IsBefore text_cmp x x = subst (λ k. IsBefore text_cmp x k) (sym same) before in
        let never = ap is_lt (tied_itself text_total x) in cc)
        (keys books.branches)
        (branches_rise books)

    -- a batch has no more charges than the size
    pub batch_is_small : (number : ℕ) → length (flat_map (batch_at number) (keys books.branches)) ≤ size
    batch_is_small number =
        at_most_one (batch_at number) size (small number) (keys books.branches) keys_differ
        (λ a b x y h g p q. by_order (text_cmp a b) number a b x y refl h g p q)

    module _ (rules : MeetsRules books size) (done : ℕ) (posted : ArePosted books size month done) where
      -- a charge after the next batch was there, or is of it
      was_or_new : (charge : Charge) → Among (values (with_posted size books month (done + 1)).charges) charge
          → Among (flat_map (batch_at done) (keys books.branches) ++ values books.charges) charge
      was_or_new charge a =
          let new = flat_map (batch_at done) (keys books.branches) in
          elim (value_of_replaced charge_key charge_month nats_total nats_tie books.charges month (posted_charges size books month (done + 1))
          (charges_fit size books keyed rules month (done + 1)) charge a) [
            | inl is ↦
                let p = is_posted size books month (done + 1) charge is in
                elim (cases_lt (batch_of size books month p.branch charge) done) [
                  | inl less ↦
                      let before = of_posted size books month done charge (record { branch = p.branch; of = p.of; due = p.due; early = less }) in
                      let here = among (charges_in books month) charge
                      ((posted.charges charge).1 (is_among (posted_charges size books month done) charge before)) in
                      of_right new (values books.charges) charge (in_rows charge_key charge_month nats_total nats_tie books.charges month charge here).0
                  | inr later ↦
                      let last = p.early in
                      let same : batch_of size books month p.branch charge ≡ done = omega (arith, later, last) in
                      of_left new (values books.charges) charge
                      (of_flat_map (batch_at done) (keys books.branches) p.branch charge p.of
                      (of_filter (λ c. nat_eq (batch_of size books month p.branch c) done) (dues_of_branch books month p.branch) charge
                      ((numbers (batch_of size books month p.branch charge) done).1 same) p.due))
                ]
            | inr old ↦ of_right new (values books.charges) charge old.0
          ]

      pub few_more : len (with_posted size books month (done + 1)).charges ≤ len books.charges + size
      few_more =
          let after = (with_posted size books month (done + 1)).charges in
          let new = flat_map (batch_at done) (keys books.branches) in
          let differ = rows_differ nats_total nats_tie charge_key after (posted_keyed size books keyed rules month (done + 1) Kind.Charges) in
          let no_more = no_longer (values after) (new ++ values books.charges) differ was_or_new in
          let both = length-append new (values books.charges) in
          let count = rows_counted nats_total nats_tie after in
          let before = rows_counted nats_total nats_tie books.charges in
          let few = batch_is_small done in
          omega (arith, no_more, both, count, before, few)

pub next_batch_is_small : (size : ℕ) → NextBatchIsSmall size
next_batch_is_small size books month done pos order =
    few_more size books month pos order.keyed order.rules done order.shown.3

-- What falls due in a month, branch by branch and in all.
use Rattle.std.proofs.Common.{◌≡◌, ◌≢◌, ◌∙◌, refl, sym, ap, subst, inl, inr, ℕ, ◌+◌, ◌<◌, ◌≤◌, Bool, true, false, cond, List, [], ◌∷◌, ◌++◌, length, Ordering}
use Rattle.std.proofs.Common.{is_lt, arith}
use Rattle.std.specs.List.{filter, flat_map, range_with_len, sum_by}
use Rattle.std.specs.Cmp.{IsTotalOrder}
use Rattle.std.specs.FinMap.{FinMap, entries, get, get-entries, keys, values}
use Rattle.std.proofs.lemmas.Bool.{false_from_ne_true}
use Rattle.std.proofs.lemmas.Cmp.{tied_itself}
use Rattle.std.proofs.lemmas.List.Sums.{sum_by-append, sum_by-cons}
use Rattle.dh_types.specs.declared.lease.Lease.{Lease}
use Rattle.dh_types.specs.declared.lease.Charge.{Charge}
use Rattle.dh_types.proofs.SameValues.{numbers, texts}
use Rattle.dh_model.specs.Books.{Books, text_cmp, Endings}
use Rattle.dh_model.specs.Leases.{due, dues, dues_among, dues_of, length_of}
use Rattle.dh_model.specs.Runs.{batches, dues_of_branch, is_property_of, leases_of_branch, posted_charges, posted_of_branch, total_of}
use Rattle.dh_model.specs.BatchLaws.{AreNumbered}
use Rattle.dh_model.specs.Kinds.{Kind}
use Rattle.dh_model.specs.Rules.{HaveTheSame, IsThere, NamesWhatIsThere}
use Rattle.dh_model.proofs.Among.{Among, among, in_filter, in_flat_map, is_among, of_filter, of_flat_map, of_map, of_range}
use Rattle.dh_model.proofs.BatchLemmas.{last_batch_posts_all}
use Rattle.dh_model.proofs.BranchDues.{branches_rise}
use Rattle.dh_model.proofs.DueLemmas.{falls_in, is_due}
use Rattle.dh_model.proofs.KeyOrders.{text_total, text_ties}
use Rattle.dh_model.proofs.Rising.{IsBefore, Rises}
use Rattle.dh_model.proofs.MapRows.{found_entry, of_row, there}
use Rattle.dh_laws.proofs.MonthLemmas.Dues.{dues_first}
use Rattle.dh_laws.proofs.BatchLemmas.Counts.{counted}

-- ---- sums

module _ {X : Type 0} where
  sum_both : (f g : X → ℕ) (xs : List X) → sum_by (λ x. f x + g x) xs ≡ sum_by f xs + sum_by g xs
  sum_both f g [] = refl
  sum_both f g (x ∷ xs) =
      let rest = sum_both f g xs in
      let both = sum_by-cons (λ x. f x + g x) x xs in
      let one = sum_by-cons f x xs in
      let other = sum_by-cons g x xs in
      omega (arith, rest, both, one, other)

  sum_none : (f : X → ℕ) (xs : List X) → ((x : X) → Among xs x → f x ≡ 0) → sum_by f xs ≡ 0
  sum_none f [] none = refl
  sum_none f (x ∷ xs) none =
      let rest = sum_none f xs (λ y a. none y (inr a)) in
      let all = sum_by-cons f x xs in
      let first = none x (inl refl) in
      omega (arith, rest, all, first)

  sum_if : (w : X → ℕ) (b : Bool) (x : X) (xs : List X) → sum_by w (cond b (x ∷ xs) xs) ≡ cond b (w x) 0 + sum_by w xs
  sum_if w true x xs = sum_by-cons w x xs
  sum_if w false x xs = omega arith

module _ {X Y : Type 0} (w : Y → ℕ) where
  sum_flat : (f : X → List Y) (xs : List X) → sum_by w (flat_map f xs) ≡ sum_by (λ x. sum_by w (f x)) xs
  sum_flat f [] = refl
  sum_flat f (x ∷ xs) =
      let rest = sum_flat f xs in
      let all = sum_by-cons (λ x. sum_by w (f x)) x xs in
      let both = sum_by-append w (f x) (flat_map f xs) in
      omega (arith, rest, all, both)

flat_alike : {X Y : Type 0} (f g : X → List Y) (xs : List X) → ((x : X) → Among xs x → f x ≡ g x) → flat_map f xs ≡ flat_map g xs
flat_alike f g [] same = refl
flat_alike f g (x ∷ xs) same = λ i. same x (inl refl) i ++ flat_alike f g xs (λ y a. same y (inr a)) i

-- over keys that rise, of which one passes
module _ {K : Type 0} (R : K → K → Ordering) (o : IsTotalOrder R) (q : K → Bool) (n : ℕ) (own : K) (passes : q own ≡ true) (one : (k : K) → q k ≡ true
    → k ≡ own) where
  not_itself : (k : K) → IsBefore R k k → ⊥
  not_itself k before = let ties = ap is_lt (tied_itself o k) in cc

  others_none : (ks : List K) → ((k : K) → Among ks k → k ≢ own) → sum_by (λ k. cond (q k) n 0) ks ≡ 0
  others_none ks apart = sum_none (λ k. cond (q k) n 0) ks (λ k a. ap (λ b. cond b n 0) (false_from_ne_true (q k) (λ yes. apart k a (one k yes))))

  sum_one : (ks : List K) → Rises (IsBefore R) ks → Among ks own → sum_by (λ k. cond (q k) n 0) ks ≡ n
  sum_one [] r a = absurd a
  sum_one (k ∷ ks) r (inl e) =
      let all = sum_by-cons (λ k. cond (q k) n 0) k ks in
      let first : cond (q k) n 0 ≡ n = ap (λ b. cond b n 0) (rw e at passes) in
      let rest = others_none ks (λ l a same. not_itself k (subst (IsBefore R k) (same ∙ e) (r.0 l a))) in
      omega (arith, all, first, rest)
  sum_one (k ∷ ks) r (inr a) =
      let all = sum_by-cons (λ k. cond (q k) n 0) k ks in
      let first : cond (q k) n 0 ≡ 0 =
      ap (λ b. cond b n 0) (false_from_ne_true (q k) (λ yes. not_itself k (subst (IsBefore R k) (sym (one k yes)) (r.0 own a)))) in
      let rest = sum_one ks r.1 a in
      omega (arith, all, first, rest)

due_made : (endings : Endings) (lease : Lease) (k : ℕ) (charge : Charge) → charge ≡ due lease k → k < length_of endings lease
    → Among (dues_of endings lease) charge
due_made endings lease k charge is within =
    subst (Among (dues_of endings lease)) (sym is)
    (of_map (due lease) (range_with_len 0 (length_of endings lease)) k (of_range 0 (length_of endings lease) k (omega arith) (omega (arith, within))))

-- ---- a lease's branch

pub key_among : {X : Type 0} (m : FinMap text_cmp X) (k : List ℕ) → IsThere m k → Among (keys m) k
key_among m k h =
    let is = (there text_total text_ties m k).0 h in
    of_map (λ e. e.0) (entries m) (k, is.0) (found_entry text_total text_ties (entries m) k is.0 (sym (get-entries m k) ∙ is.1))

module _ (books : Books) (names : NamesWhatIsThere books) where
  -- the branch of a lease's property
  pub record IsAt (lease : Lease) : Type 0 where
    pub branch : List ℕ
    pub of : Among (keys books.branches) branch
    pub is : is_property_of branch (get books.properties lease.terms.property) ≡ true
    pub one : (other : List ℕ) → is_property_of other (get books.properties lease.terms.property) ≡ true → other ≡ branch

  pub branch_of : (lease : Lease) → Among (values books.leases) lease → IsAt lease
  branch_of lease a =
      let refers = names Kind.Leases lease (is_among (values books.leases) lease a) in
      let found = (there text_total text_ties books.properties lease.terms.property).0 refers.property in
      let property = found.0 in
      let its = (names Kind.Properties property
      (is_among (values books.properties) property (of_row text_total text_ties books.properties lease.terms.property property found.1))).branch in
      record {
        branch = property.branch;
        of = key_among books.branches property.branch its;
        is = ap (is_property_of property.branch) found.1 ∙ (texts property.branch property.branch).1 refl;
        one = λ other h. sym ((texts property.branch other).0 (ap (is_property_of other) (sym found.1) ∙ h));
      }

  module _ (month : ℕ) where
    -- each due of the month is a branch's
    pub due_at_branch : (charge : Charge) → Among (dues books month) charge → (branch : List ℕ) × Among (keys books.branches) branch
        × Among (dues_of_branch books month branch) charge
    due_at_branch charge a =
        let d = is_due books.endings (values books.leases) month charge a in
        let at = branch_of d.lease d.of in
        let made = due_made books.endings d.lease d.k charge d.is d.within in (
          at.branch,
          at.of,
          of_filter (falls_in month) (flat_map (dues_of books.endings) (leases_of_branch books at.branch)) charge ((numbers charge.month month).1 d.month_is)
              (of_flat_map (dues_of books.endings) (leases_of_branch books at.branch) d.lease charge
              (of_filter (λ lease. is_property_of at.branch (get books.properties lease.terms.property)) (values books.leases) d.lease at.is d.of) made),
        )

    -- and what is a branch's is due
    pub of_due_at_branch : (branch : List ℕ) (charge : Charge) → Among (dues_of_branch books month branch) charge → Among (dues books month) charge
    of_due_at_branch branch charge a =
        let d = is_due books.endings (leases_of_branch books branch) month charge a in
        let kept = in_filter (λ lease. is_property_of branch (get books.properties lease.terms.property)) (values books.leases) d.lease d.of in
        let made = due_made books.endings d.lease d.k charge d.is d.within in
        of_filter (falls_in month) (flat_map (dues_of books.endings) (values books.leases)) charge ((numbers charge.month month).1 d.month_is)
        (of_flat_map (dues_of books.endings) (values books.leases) d.lease charge kept.0 made)

    module _ (w : Charge → ℕ) where
      abbrev of_lease : Lease → ℕ
      of_lease lease = sum_by w (filter (falls_in month) (dues_of books.endings lease))

      sum_of_leases : (leases : List Lease) → sum_by w (dues_among books.endings leases month) ≡ sum_by of_lease leases
      sum_of_leases [] = refl
      sum_of_leases (lease ∷ leases) =
          let rest = sum_of_leases leases in
          let all = ap (sum_by w) (dues_first books.endings month lease leases)
          ∙ sum_by-append w (filter (falls_in month) (dues_of books.endings lease)) (dues_among books.endings leases month) in
          let own = sum_by-cons of_lease lease leases in
          omega (arith, rest, all, own)

      abbrev is_at : List ℕ → Lease → Bool
      is_at branch lease = is_property_of branch (get books.properties lease.terms.property)

      branch_by_branch : (leases : List Lease) → ((lease : Lease) → Among leases lease → IsAt lease)
          → sum_by (λ branch. sum_by of_lease (filter (is_at branch) leases)) (keys books.branches) ≡ sum_by of_lease leases
      branch_by_branch [] at = sum_none (λ branch. 0) (keys books.branches) (λ branch a. refl)
      branch_by_branch (lease ∷ leases) at =
          let rest = branch_by_branch leases (λ other a. at other (inr a)) in
          let its = at lease (inl refl) in
          let split : sum_by (λ branch. sum_by of_lease (filter (is_at branch) (lease ∷ leases))) (keys books.branches)
          ≡ sum_by (λ branch. cond (is_at branch lease) (of_lease lease) 0 + sum_by of_lease (filter (is_at branch) leases)) (keys books.branches)
          = λ i. sum_by (λ branch. sum_if of_lease (is_at branch lease) lease (filter (is_at branch) leases) i) (keys books.branches) in
          let both = sum_both (λ branch. cond (is_at branch lease) (of_lease lease) 0) (λ branch. sum_by of_lease (filter (is_at branch) leases))
          (keys books.branches) in
          let own = sum_one text_cmp text_total (λ branch. is_at branch lease) (of_lease lease) its.branch its.is its.one
          (keys books.branches) (branches_rise books) its.of in
          let all = sum_by-cons of_lease lease leases in
          omega (arith, rest, split, both, own, all)

      -- the dues of the branches, summed up, are those of the month
      pub sum_of_branches : sum_by w (flat_map (dues_of_branch books month) (keys books.branches)) ≡ sum_by w (dues books month)
      sum_of_branches =
          sum_flat w (dues_of_branch books month) (keys books.branches)
          ∙ (λ i. sum_by (λ branch. sum_of_leases (leases_of_branch books branch) i) (keys books.branches))
          ∙ branch_by_branch (values books.leases) branch_of
          ∙ sym (sum_of_leases (values books.leases))

    module _ (size : ℕ) (pos : 1 ≤ size) (are : AreNumbered books) where
      abbrev all_posted : List Charge
      all_posted = posted_charges size books month (batches size books month)

      all_of_branches : all_posted ≡ flat_map (dues_of_branch books month) (keys books.branches)
      all_of_branches = flat_alike (posted_of_branch size books month (batches size books month)) (dues_of_branch books month) (keys books.branches)
          (λ branch a. (last_batch_posts_all size books month pos are).0 branch (is_among (keys books.branches) branch a))

      -- what all batches post is what falls due
      pub all_are_dues : HaveTheSame all_posted (dues books month)
      all_are_dues charge = (
        λ a. let of = in_flat_map (dues_of_branch books month) (keys books.branches) charge
            (subst (λ xs. Among xs charge) all_of_branches (among all_posted charge a)) in
            is_among (dues books month) charge (of_due_at_branch of.0 charge of.2),
        λ a. let at = due_at_branch charge (among (dues books month) charge a) in
            is_among all_posted charge
            (subst (λ xs. Among xs charge) (sym all_of_branches) (of_flat_map (dues_of_branch books month) (keys books.branches) at.0 charge at.1 at.2)),
      )

      -- by number and by amount
      pub count_of_all : length all_posted ≡ length (dues books month)
      count_of_all = counted all_posted ∙ ap (sum_by (λ charge. 1)) all_of_branches ∙ sum_of_branches (λ charge. 1) ∙ sym (counted (dues books month))

      pub total_of_all : total_of all_posted ≡ total_of (dues books month)
      total_of_all = ap total_of all_of_branches ∙ sum_of_branches (λ charge. charge.amount)

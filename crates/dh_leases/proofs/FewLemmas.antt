-- No lease has dues at two branches, so what is posted is no more than there are leases.
use Rattle.std.proofs.Common.{◌≡◌, ◌∙◌, refl, sym, ap, subst, inl, inr, ℕ, ◌+◌, ◌≤◌, Bool, true, false, cond, List, [], ◌∷◌, length, Option, is_lt}
use Rattle.std.proofs.Common.{nat_lt, arith}
use Rattle.std.specs.List.{count_by, filter, sum_by}
use Rattle.std.specs.FinMap.{get, keys, values}
use Rattle.std.proofs.lemmas.Bool.{cases_Bool, false≢true}
use Rattle.std.proofs.lemmas.Cmp.{nat_list_cmp_total, tied_itself}
use Rattle.std.proofs.lemmas.List.Concat.{length-flat_map}
use Rattle.std.proofs.lemmas.List.Sums.{sum_by-cons, sum_by-le-sum_by}
use Rattle.dh_types.specs.declared.property.Property.{Property}
use Rattle.dh_types.specs.declared.lease.Charge.{Charge}
use Rattle.dh_types.specs.declared.lease.Lease.{Lease}
use Rattle.dh_model.specs.Books.{Books, text_cmp}
use Rattle.dh_model.specs.Runs.{batch_of, dues_of_branch, is_property_of, leases_of_branch, posted_charges, posted_of_branch}
use Rattle.dh_model.proofs.Among.{Among}
use Rattle.dh_model.proofs.BranchDues.{branches_rise, same_branch}
use Rattle.dh_model.proofs.Rising.{IsBefore, Rises}
use Rattle.dh_leases.proofs.PartLemmas.{no_more_dues, no_more_kept}

module _ {X Y : Type 0} (test : Y → X → Bool) (Before : Y → Y → Type 0) (apart : (a b : Y) (x : X) → Before a b → test a x ≡ true → test b x ≡ true → ⊥) where
  counted : (b : Y) (bs : List Y) (x : X) (passes : Bool) → test b x ≡ passes
      → count_by (λ c. test c x) (b ∷ bs) ≡ cond passes 1 0 + count_by (λ c. test c x) bs
  counted b bs x passes is = sum_by-cons (λ c. cond (test c x) 1 0) b bs ∙ ap (λ t. cond t 1 0 + count_by (λ c. test c x) bs) is

  none_later : (a : Y) (bs : List Y) (x : X) → test a x ≡ true → ((b : Y) → Among bs b → Before a b) → count_by (λ b. test b x) bs ≡ 0
  none_later a [] x passes later = refl
  none_later a (b ∷ bs) x passes later = elim (cases_Bool (test b x)) [
    | inl also ↦ absurd (apart a b x (later b (inl refl)) passes also)
    | inr fails ↦ omega (arith, counted b bs x false fails, none_later a bs x passes (λ c h. later c (inr h)))
  ]

  at_most_one : (bs : List Y) (x : X) → Rises Before bs → count_by (λ b. test b x) bs ≤ 1
  at_most_one [] x r = omega arith
  at_most_one (b ∷ bs) x r = elim (cases_Bool (test b x)) [
    | inl passes ↦ omega (arith, counted b bs x true passes, none_later b bs x passes r.0)
    | inr fails ↦ omega (arith, counted b bs x false fails, at_most_one bs x r.1)
  ]

  one_or_none : (b : Bool) (x : X) (xs : List X) → length (cond b (x ∷ xs) xs) ≡ cond b 1 0 + length xs
  one_or_none true x xs = omega arith
  one_or_none false x xs = omega arith

  abbrev kept : List X → Y → ℕ
  kept xs b = length (filter (test b) xs)

  one_more : (bs : List Y) (x : X) (xs : List X) → sum_by (kept (x ∷ xs)) bs ≡ count_by (λ b. test b x) bs + sum_by (kept xs) bs
  one_more [] x xs = omega arith
  one_more (b ∷ bs) x xs =
      let own : kept (x ∷ xs) b ≡ cond (test b x) 1 0 + kept xs b = one_or_none (test b x) x (filter (test b) xs) in
      omega (arith, sum_by-cons (kept (x ∷ xs)) b bs, counted b bs x (test b x) refl, sum_by-cons (kept xs) b bs, own, one_more bs x xs)

  nothing : (bs : List Y) → sum_by (kept []) bs ≡ 0
  nothing [] = refl
  nothing (b ∷ bs) = omega (arith, sum_by-cons (kept []) b bs, nothing bs)

  -- tests of which no two pass at one element pass at no more than there are
  shares : (bs : List Y) → Rises Before bs → (xs : List X) → sum_by (kept xs) bs ≤ length xs
  shares bs r [] = omega (arith, nothing bs)
  shares bs r (x ∷ xs) = omega (arith, one_more bs x xs, at_most_one bs x r, shares bs r xs)

branches_apart : (a b : List ℕ) (property : Option Property) → IsBefore text_cmp a b → is_property_of a property ≡ true → is_property_of b property ≡ true → ⊥
branches_apart a b property before p q =
    let itself : is_lt (text_cmp a a) ≡ true = subst (λ k. is_lt (text_cmp a k) ≡ true) (sym (same_branch a b property p q)) before in
    false≢true (sym (ap is_lt (tied_itself nat_list_cmp_total a)) ∙ itself)

module _ (size : ℕ) (books : Books) (month done : ℕ) where
  few_of_branch : (branch : List ℕ) → length (posted_of_branch size books month done branch) ≤ length (leases_of_branch books branch)
  few_of_branch branch =
      omega (
        arith,
        no_more_kept (λ charge. nat_lt (batch_of size books month branch charge) done) (dues_of_branch books month branch),
        no_more_dues books.endings (leases_of_branch books branch) month,
      )

  pub few_posted : length (posted_charges size books month done) ≤ length (values books.leases)
  few_posted =
      let few = sum_by-le-sum_by (λ branch. length (posted_of_branch size books month done branch)) (λ branch. length (leases_of_branch books branch))
      (keys books.branches) few_of_branch in
      let shared = shares (λ (branch : List ℕ) (lease : Lease). is_property_of branch (get books.properties lease.terms.property)) (IsBefore text_cmp)
      (λ a b lease. branches_apart a b (get books.properties lease.terms.property)) (keys books.branches) (branches_rise books) (values books.leases) in
      omega (arith, length-flat_map (posted_of_branch size books month done) (keys books.branches), few, shared)

-- what falls due at a branch is no more than there are leases
pub few_dues : (books : Books) (month : ℕ) (branch : List ℕ) (charges : List Charge) → charges ≡ dues_of_branch books month branch
    → length charges ≤ length (values books.leases)
few_dues books month branch charges is =
    let dues = no_more_dues books.endings (leases_of_branch books branch) month in
    omega (arith, ap length is, dues, no_more_kept (λ lease. is_property_of branch (get books.properties lease.terms.property)) (values books.leases))

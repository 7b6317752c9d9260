-- What is posted after so many batches: the first of each branch's dues.
use Rattle.std.proofs.Common.{◌≡◌, ◌∙◌, refl, sym, ap, subst, inl, inr, ℕ, suc, ◌+◌, ◌-◌, ◌*◌, ◌/◌, ◌<◌, ◌≤◌, Bool, true, false, cond, nat_lt, List, [], ◌∷◌}
use Rattle.std.proofs.Common.{◌++◌, length, map, take, append-nil, Ordering, is_lt, le-div_iff_mul-le, le-ltb, lt-ltb, arith}
use Rattle.std.specs.List.{filter, flat_map, sum_by}
use Rattle.std.specs.Cmp.{IsTotalOrder}
use Rattle.std.specs.FinMap.{keys}
use Rattle.std.proofs.lemmas.Bool.{cases_lt}
use Rattle.std.proofs.lemmas.Cmp.{nat_list_cmp_total, tied_itself}
use Rattle.std.proofs.lemmas.Grind.{flat_map-append}
use Rattle.std.proofs.lemmas.List.{map-append, take_all}
use Rattle.std.proofs.lemmas.List.Elements.{filter-append}
use Rattle.std.proofs.lemmas.List.Sums.{sum_by_push}
use Rattle.dh_types.specs.declared.lease.Charge.{Charge}
use Rattle.dh_types.specs.declared.run.Part.{Part}
use Rattle.dh_types.specs.declared.fee.PartFee.{PartFee}
use Rattle.dh_model.specs.Books.{Books, text_cmp}
use Rattle.dh_model.specs.Runs.{batches_before, batches_for, batches_of_branch, dues_of_branch, fee_at, part_fee_of, part_of, place_among}
use Rattle.dh_model.specs.Runs.{posted_of_branch}
use Rattle.dh_model.specs.BatchLaws.{AreNumbered}
use Rattle.dh_model.proofs.Among.{Among}
use Rattle.dh_model.proofs.BatchLemmas.{places_numbered}
use Rattle.dh_model.proofs.BranchDues.{branches_rise}
use Rattle.dh_model.proofs.Rising.{IsBefore, Numbered, Rises}
use Rattle.dh_model.proofs.BranchSums.{not_back}
use Rattle.dh_laws.proofs.MonthLemmas.Dues.{none_kept}

in_the_middle : {X : Type 0} (xs ys : List X) (x : X) → Among (xs ++ x ∷ ys) x
in_the_middle [] ys x = inl refl
in_the_middle (y ∷ xs) ys x = inr (in_the_middle xs ys x)

module _ {K : Type 0} (R : K → K → Ordering) (o : IsTotalOrder R) where
  -- of keys that rise the lesser ones stand before
  pub lesser_are : (xs ys : List K) (k : K) → Rises (IsBefore R) (xs ++ k ∷ ys) → filter (λ other. is_lt (R other k)) (xs ++ k ∷ ys) ≡ xs
  lesser_are [] ys k r =
      ap (λ b. cond b (k ∷ filter (λ other. is_lt (R other k)) ys) (filter (λ other. is_lt (R other k)) ys)) (ap is_lt (tied_itself o k))
      ∙ none_kept (λ other. is_lt (R other k)) ys (λ y a. not_back R o k y (r.0 y a))
  lesser_are (x ∷ xs) ys k r =
      ap (λ b. cond b (x ∷ filter (λ other. is_lt (R other k)) (xs ++ k ∷ ys)) (filter (λ other. is_lt (R other k)) (xs ++ k ∷ ys)))
      (r.0 k (in_the_middle xs ys k))
      ∙ ap (λ zs. x ∷ zs) (lesser_are xs ys k r.1)

module _ {X : Type 0} (number : X → ℕ) (test : ℕ → Bool) (limit : ℕ) (passes : (n : ℕ) → n < limit → test n ≡ true) (fails : (n : ℕ) → limit ≤ n
    → test n ≡ false) where
  -- of elements that are numbered those below the limit are the first ones
  first_kept : (a : ℕ) (xs : List X) → Numbered number a xs → filter (λ x. test (number x)) xs ≡ take (limit - a) xs
  first_kept a [] is = sym (take_all (limit - a) [] (omega arith))
  first_kept a (x ∷ xs) is =
      let rest = first_kept (a + 1) xs is.1 in
      elim (cases_lt a limit) [
        | inl below ↦
            let more : limit - a ≡ suc (limit - (a + 1)) = omega (arith, below) in
            ap (λ b. cond b (x ∷ filter (λ y. test (number y)) xs) (filter (λ y. test (number y)) xs)) (ap test is.0 ∙ passes a below)
            ∙ ap (λ ys. x ∷ ys) rest ∙ sym (ap (λ m. take m (x ∷ xs)) more)
        | inr above ↦
            let none : limit - a ≡ 0 = omega (arith, above) in
            let still : limit - (a + 1) ≡ 0 = omega (arith, above) in
            ap (λ b. cond b (x ∷ filter (λ y. test (number y)) xs) (filter (λ y. test (number y)) xs)) (ap test is.0 ∙ fails a above)
            ∙ rest ∙ ap (λ m. take m xs) still ∙ sym (ap (λ m. take m (x ∷ xs)) none)
      ]

module _ (size : ℕ) (pos : 1 ≤ size) (before done : ℕ) where
  early : (place : ℕ) → place < (done - before) * size → nat_lt (before + place / size) done ≡ true
  early place h = elim (cases_lt (place / size) (done - before)) [
    | inl less ↦ lt-ltb (before + place / size) done (omega (arith, less))
    | inr more ↦ let enough = le-div_iff_mul-le pos in let over : (done - before) * size ≤ place = enough.0 more in absurd (omega (arith, h, over))
  ]

  late : (place : ℕ) → (done - before) * size ≤ place → nat_lt (before + place / size) done ≡ false
  late place h =
      let enough = le-div_iff_mul-le pos in
      let over : done - before ≤ place / size = enough.1 h in
      le-ltb (before + place / size) done (omega (arith, over))

-- what the branch has of the run after so many batches
abbrev pub part_after : ℕ → Books → ℕ → ℕ → List ℕ → Part
part_after size books month done branch = part_of month branch (posted_of_branch size books month done branch)

-- and takes of it
abbrev pub fee_row_after : ℕ → Books → ℕ → ℕ → List ℕ → PartFee
fee_row_after size books month done branch = part_fee_of month branch (fee_at books branch) (posted_of_branch size books month done branch)

-- its first batch is among them
abbrev pub has_begun : ℕ → Books → ℕ → ℕ → List ℕ → Bool
has_begun size books month done branch = nat_lt (batches_before size books month branch) done

-- the batches that are left after those of these branches
abbrev pub left_after : ℕ → Books → ℕ → ℕ → List (List ℕ) → ℕ
left_after size books month done branches = done - sum_by (batches_of_branch size books month) branches

module _ (size : ℕ) (books : Books) (month done : ℕ) (pos : 1 ≤ size) (are : AreNumbered books) where
  pub first_posted : (branch : List ℕ)
      → posted_of_branch size books month done branch ≡ take ((done - batches_before size books month branch) * size) (dues_of_branch books month branch)
  first_posted branch =
      let before = batches_before size books month branch in
      let dues = dues_of_branch books month branch in
      first_kept (place_among size dues) (λ place. nat_lt (before + place / size) done) ((done - before) * size) (early size pos before done)
      (late size pos before done)
      0 dues (places_numbered size books month pos are branch)
      ∙ ap (λ m. take m dues) (omega arith)

  module _ (xs ys : List (List ℕ)) (branch : List ℕ) (all : keys books.branches ≡ xs ++ branch
      ∷ ys) (left : ℕ) (is : left ≡ left_after size books month done xs) where
    before_are : batches_before size books month branch ≡ sum_by (batches_of_branch size books month) xs
    before_are =
        ap (λ ks. sum_by (batches_of_branch size books month) (filter (λ other. is_lt (text_cmp other branch)) ks)) all
        ∙ ap (sum_by (batches_of_branch size books month)) (lesser_are text_cmp nat_list_cmp_total xs ys branch
        (subst (Rises (IsBefore text_cmp)) all (branches_rise books)))

    pub left_before : left ≡ done - batches_before size books month branch
    left_before = is ∙ ap (λ n. done - n) (sym before_are)

    module _ (charges : List Charge) (dues : charges ≡ dues_of_branch books month branch) where
      pub posted_next : take (left * size) charges ≡ posted_of_branch size books month done branch
      posted_next = ap (take (left * size)) dues ∙ ap (λ n. take (n * size) (dues_of_branch books month branch)) left_before ∙ sym (first_posted branch)

      pub charges_next : (posted : List Charge) → posted ≡ flat_map (posted_of_branch size books month done) xs
          → posted ++ take (left * size) charges ≡ flat_map (posted_of_branch size books month done) (xs ++ branch ∷ [])
      charges_next posted had =
          ap (λ cs. cs ++ take (left * size) charges) had
          ∙ ap (λ cs. flat_map (posted_of_branch size books month done) xs ++ cs) (posted_next
          ∙ sym (append-nil (posted_of_branch size books month done branch)))
          ∙ sym (flat_map-append (posted_of_branch size books month done) xs (branch ∷ []))

      pub left_next : left - batches_for size (length charges) ≡ left_after size books month done (xs ++ branch ∷ [])
      left_next = omega (arith, is, sum_by_push (batches_of_branch size books month) xs branch, ap (λ cs. batches_for size (length cs)) dues)

      -- the row of a branch that has begun comes behind those of the others
      pub rows_next : {X : Type 0} (row : List ℕ → X) (rows : List X) (its : X) → rows ≡ map row (filter (has_begun size books month done) xs) → 0 < left
          → its ≡ row branch → rows ++ its ∷ [] ≡ map row (filter (has_begun size books month done) (xs ++ branch ∷ []))
      rows_next row rows its had some is_its =
          let begun = has_begun size books month done in
          let begins : nat_lt (batches_before size books month branch) done ≡ true =
          lt-ltb (batches_before size books month branch) done (omega (arith, some, left_before)) in
          ap (λ rs. rs ++ its ∷ []) had
          ∙ ap (λ r. map row (filter begun xs) ++ r ∷ []) is_its
          ∙ sym (map-append row (filter begun xs) (branch ∷ []))
          ∙ ap (map row) (sym (filter-append begun xs (branch ∷ []) ∙ ap (λ b. filter begun xs ++ cond b (branch ∷ []) []) begins))

    -- and one that has not has none
    pub no_row_next : {X : Type 0} (row : List ℕ → X) (rows : List X) → rows ≡ map row (filter (has_begun size books month done) xs) → left ≡ 0
        → rows ≡ map row (filter (has_begun size books month done) (xs ++ branch ∷ []))
    no_row_next row rows had none =
        let begun = has_begun size books month done in
        let waits : nat_lt (batches_before size books month branch) done ≡ false =
        le-ltb (batches_before size books month branch) done (omega (arith, none, left_before)) in
        had ∙ ap (map row) (sym (filter-append begun xs (branch ∷ []) ∙ ap (λ b. filter begun xs ++ cond b (branch ∷ []) []) waits
        ∙ append-nil (filter begun xs)))

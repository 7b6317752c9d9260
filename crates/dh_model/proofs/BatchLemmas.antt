-- Batches of rent runs.
use Rattle.std.proofs.Common.{◌≡◌, ◌∙◌, refl, ap, inl, inr, ℕ, ◌+◌, ◌-◌, ◌*◌, ◌/◌, ◌<◌, ◌≤◌, min, Bool, true, false, cond, nat_eq, nat_lt, List, [], ◌∷◌}
use Rattle.std.proofs.Common.{length, div-mul-le_self, le-div_iff_mul-le, le-ltb, lt-ltb, arith}
use Rattle.std.specs.List.{filter}
use Rattle.std.specs.FinMap.{keys}
use Rattle.std.proofs.Math.Nat.{div-lt_iff_lt-mul, lt-div-mul-add}
use Rattle.std.proofs.lemmas.Nat.{le-div}
use Rattle.std.proofs.lemmas.Bool.{cases_lt}
use Rattle.std.proofs.lemmas.Cmp.{nat_list_cmp_total}
use Rattle.std.proofs.lemmas.List.Sums.{length-filter}
use Rattle.dh_types.specs.declared.lease.Charge.{Charge}
use Rattle.dh_types.proofs.SameValues.{numbers}
use Rattle.dh_model.specs.Books.{Books, text_cmp}
use Rattle.dh_model.specs.Runs.{batch_of, batches, batches_before, batches_for, batches_of_branch, dues_of_branch, place_among, posted_of_branch}
use Rattle.dh_model.specs.BatchLaws.{AreNumbered, BatchesOfBranchesAreAmongAll, EachDueHasItsBatch, LastBatchPostsAll, NoBatchIsTooLarge}
use Rattle.dh_model.proofs.Among.{Among, among}
use Rattle.dh_model.proofs.Rising.{Numbered, count_below, no_more_than, numbered_within, places_are_numbered}
use Rattle.dh_model.proofs.BranchSums.{own_is_among_all}
use Rattle.dh_model.proofs.BranchDues.{dues_of_branch_rise, lease_of}

module _ (size : ℕ) (pos : 1 ≤ size) where
  -- the places of a batch
  places_of_batch : (before place number : ℕ) → nat_eq (before + place / size) number ≡ true → ((number - before) * size ≤ place)
      × (place < (number - before) * size + size)
  places_of_batch before place number h =
      let same = (numbers (before + place / size) number).0 h in
      let quotient : number - before ≡ place / size = omega (arith, same) in
      rw quotient (div-mul-le_self place size, lt-div-mul-add pos)

  -- a place below the count is of a batch below the batches
  batch_is_within : (place count : ℕ) → place < count → place / size < batches_for size count
  batch_is_within place count h =
      let low = div-mul-le_self place size in
      let enough : (place / size + 1) * size ≤ count + (size - 1) = omega (arith, low, h, pos) in
      let more = le-div (place / size + 1) (count + (size - 1)) size pos enough in
      omega (arith, more)

  -- a batch after the first begins at a place below the count
  pub batch_begins : (count q : ℕ) → 1 ≤ q → q < batches_for size count → q * size < count
  batch_begins count q one h =
      let more : q + 1 ≤ (count + (size - 1)) / size = omega (arith, one, h) in
      let enough = le-div_iff_mul-le pos in
      let reached : (q + 1) * size ≤ count + (size - 1) = enough.0 more in
      omega (arith, reached, pos)

  some_batch : (count : ℕ) → 1 ≤ batches_for size count
  some_batch count = omega arith

  -- what fits into so many batches takes no more
  pub no_more_batches : (count q : ℕ) → 1 ≤ q → count ≤ q * size → batches_for size count ≤ q
  no_more_batches count q one h = elim (cases_lt q (batches_for size count)) [
    | inl more ↦ let begins = batch_begins count q one more in absurd (omega (arith, begins, h))
    | inr fits ↦ fits
  ]

  -- and what does not takes one more
  one_more_batch : (count q : ℕ) → q * size < count → q + 1 ≤ batches_for size count
  one_more_batch count q h =
      let enough : (q + 1) * size ≤ count + (size - 1) = omega (arith, h, pos) in
      let reached = le-div (q + 1) (count + (size - 1)) size pos enough in
      omega (arith, reached)

  -- the charges of the first q batches take q, or all that there are
  batches_of_first : (count q : ℕ) → 1 ≤ q → batches_for size (min count (q * size)) ≡ min (batches_for size count) q
  batches_of_first count q one = elim (cases_lt (q * size) count) [
    | inl more ↦
        let is : q ≡ (q - 1) + 1 = omega (arith, one) in
        let full : (q - 1) * size + size ≡ q * size = omega (arith, ap (λ n. n * size) is) in
        let as_many = one_more_batch (q * size) (q - 1) (omega (arith, full, pos)) in
        let no_more = no_more_batches (q * size) q one (omega arith) in
        let others = one_more_batch count q more in
        let first : min count (q * size) ≡ q * size = omega (arith, more) in
        let they : batches_for size (q * size) ≡ min (batches_for size count) q = omega (arith, as_many, no_more, others, is) in
        ap (batches_for size) first ∙ they
    | inr all ↦
        let few = no_more_batches count q one all in
        let first : min count (q * size) ≡ count = omega (arith, all) in
        let they : batches_for size count ≡ min (batches_for size count) q = omega (arith, few) in
        ap (batches_for size) first ∙ they
  ]

  -- a place is of the first batches exactly where it is below their size
  early_place : (before place done : ℕ) → place < (done - before) * size → nat_lt (before + place / size) done ≡ true
  early_place before place done h =
      let by = div-lt_iff_lt-mul pos in
      let less : place / size < done - before = by.1 h in
      lt-ltb (before + place / size) done (omega (arith, less))

  late_place : (before place done : ℕ) → (done - before) * size ≤ place → nat_lt (before + place / size) done ≡ false
  late_place before place done h =
      let reached = le-div (done - before) place size pos h in
      le-ltb (before + place / size) done (omega (arith, reached))

module _ (size : ℕ) (books : Books) (month : ℕ) (pos : 1 ≤ size) (are : AreNumbered books) where
  -- the places of a branch's dues are 0, 1, 2 and so on
  pub places_numbered : (branch : List ℕ) → Numbered (place_among size (dues_of_branch books month branch)) 0 (dues_of_branch books month branch)
  places_numbered branch = places_are_numbered lease_of (dues_of_branch books month branch) (dues_of_branch_rise books month are branch)

  each_has_its_batch : (branch : List ℕ) (charge : Charge) → Among (dues_of_branch books month branch) charge
      → batch_of size books month branch charge < batches_before size books month branch + batches_of_branch size books month branch
  each_has_its_batch branch charge a =
      let dues = dues_of_branch books month branch in
      let within = numbered_within (place_among size dues) 0 dues charge (places_numbered branch) a in
      let place = place_among size dues charge in
      let batch = batch_is_within size pos place (length dues) (omega (arith, within)) in
      omega (arith, batch)

  -- the dues that a branch has posted take its batches, or as many as are done after those of the branches before it
  pub batches_posted : (done : ℕ) (branch : List ℕ) → batches_before size books month branch < done
      → batches_for size (length (posted_of_branch size books month done branch))
      ≡ min (batches_of_branch size books month branch) (done - batches_before size books month branch)
  batches_posted done branch begun =
      let dues = dues_of_branch books month branch in
      let before = batches_before size books month branch in
      let q = done - before in
      let place = place_among size dues in
      let test : Charge → Bool = λ charge. nat_lt (batch_of size books month branch charge) done in
      let below = count_below place test (q * size)
      (λ charge h. early_place size pos before (place charge) done h)
      (λ charge h. late_place size pos before (place charge) done h)
      0 dues (places_numbered branch) in
      let all = length-filter test dues in
      let posted : length (posted_of_branch size books month done branch) ≡ min (length dues) (q * size) = omega (arith, below, all) in
      ap (batches_for size) posted ∙ batches_of_first size pos (length dues) q (omega (arith, begun))

pub no_batch_is_too_large : (size : ℕ) → NoBatchIsTooLarge size
no_batch_is_too_large size books month branch number pos are =
    let dues = dues_of_branch books month branch in
    let before = batches_before size books month branch in
    no_more_than (place_among size dues) (λ charge. nat_eq (batch_of size books month branch charge) number) ((number - before) * size) size
    (λ charge h. places_of_batch size pos before (place_among size dues charge) number h) 0 dues (places_numbered size books month pos are branch)

pub each_due_has_its_batch : (size : ℕ) → EachDueHasItsBatch size
each_due_has_its_batch size books month branch charge pos are h =
    each_has_its_batch size books month pos are branch charge (among (dues_of_branch books month branch) charge h)

all_of_branch : (size : ℕ) (books : Books) (month : ℕ) (branch : List ℕ) → Among (keys books.branches) branch
    → batches_before size books month branch + batches_of_branch size books month branch ≤ batches size books month
all_of_branch size books month branch a = own_is_among_all (batches_of_branch size books month) text_cmp nat_list_cmp_total (keys books.branches) branch a

pub batches_of_branches_are_among_all : (size : ℕ) → BatchesOfBranchesAreAmongAll size
batches_of_branches_are_among_all size books month branch h = all_of_branch size books month branch (among (keys books.branches) branch h)

module _ {X : Type 0} (p : X → Bool) where
  all_kept : (xs : List X) → ((x : X) → Among xs x → p x ≡ true) → filter p xs ≡ xs
  all_kept [] all = refl
  all_kept (x ∷ xs) all = ap (λ b. cond b (x ∷ filter p xs) (filter p xs)) (all x (inl refl)) ∙ ap (λ ys. x ∷ ys) (all_kept xs (λ y h. all y (inr h)))

pub last_batch_posts_all : (size : ℕ) → LastBatchPostsAll size
last_batch_posts_all size books month pos are = (
  λ branch h.
      let all = all_of_branch size books month branch (among (keys books.branches) branch h) in
      all_kept (λ charge. nat_lt (batch_of size books month branch charge) (batches size books month)) (dues_of_branch books month branch)
      (λ charge a. let its = each_has_its_batch size books month pos are branch charge a in
      lt-ltb (batch_of size books month branch charge) (batches size books month) (omega (arith, its, all))),
  all_kept (λ branch. nat_lt (batches_before size books month branch) (batches size books month)) (keys books.branches)
      (λ branch a. let all = all_of_branch size books month branch a in
      let some = some_batch size pos (length (dues_of_branch books month branch)) in
      lt-ltb (batches_before size books month branch) (batches size books month) (omega (arith, all, some))),
)

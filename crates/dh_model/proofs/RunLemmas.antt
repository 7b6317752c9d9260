-- An open run stands at one number of batches.
use Rattle.std.proofs.Common.{◌≡◌, ◌∙◌, sym, ap, subst, inl, inr, ℕ, ◌+◌, ◌-◌, ◌*◌, ◌/◌, ◌<◌, ◌≤◌, nat_lt, List, length, lt-ltb, ltb-true, arith}
use Rattle.std.specs.FinMap.{keys}
use Rattle.std.proofs.lemmas.Nat.{div-mul-add}
use Rattle.std.proofs.lemmas.Cmp.{nat_list_cmp_total}
use Rattle.std.proofs.lemmas.Bool.{cases_lt}
use Rattle.dh_types.specs.declared.lease.Charge.{Charge}
use Rattle.dh_types.specs.declared.run.Part.{Part}
use Rattle.dh_model.specs.Books.{Books, text_cmp}
use Rattle.dh_model.specs.Runs.{batch_of, batches, batches_before, batches_of_branch, begun_branches, dues_of_branch, part_of, place_among, posted_charges}
use Rattle.dh_model.specs.Runs.{posted_of_branch, posted_parts}
use Rattle.dh_model.specs.BatchLaws.{AreNumbered, OneNumberOfBatches}
use Rattle.dh_model.specs.Rules.{ArePosted}
use Rattle.dh_model.proofs.Among.{Among, among, in_filter, in_flat_map, in_map, is_among, of_filter, of_flat_map, of_map}
use Rattle.dh_model.proofs.Rising.{numbered_at}
use Rattle.dh_model.proofs.BranchSums.{holder}
use Rattle.dh_model.proofs.BranchDues.{one_branch_of_due, branches_rise}
use Rattle.dh_model.proofs.BatchLemmas.{batch_begins, places_numbered}

-- a branch that has begun after n batches has its first batch among them
begun : (size : ℕ) (books : Books) (month n : ℕ) (branch : List ℕ) (part : Part) → part.branch ≡ branch → Among (posted_parts size books month n) part
    → batches_before size books month branch < n
begun size books month n branch part same a =
    let of = in_map (λ b. part_of month b (posted_of_branch size books month n b)) (begun_branches size books month n) part a in
    let kept = in_filter (λ b. nat_lt (batches_before size books month b) n) (keys books.branches) of.0 of.1 in
    let early = ltb-true (batches_before size books month of.0) n kept.1 in
    let one : of.0 ≡ branch = sym (ap (λ (p : Part). p.branch) of.2) ∙ same in
    subst (λ b. batches_before size books month b < n) one early

-- and it has a part row
pub of_begun : (size : ℕ) (books : Books) (month n : ℕ) (branch : List ℕ) → Among (keys books.branches) branch → batches_before size books month branch < n
    → Among (posted_parts size books month n) (part_of month branch (posted_of_branch size books month n branch))
of_begun size books month n branch a early =
    of_map (λ b. part_of month b (posted_of_branch size books month n b)) (begun_branches size books month n) branch
    (of_filter (λ b. nat_lt (batches_before size books month b) n) (keys books.branches) branch (lt-ltb (batches_before size books month branch) n early) a)

-- a charge that is posted after n batches is some branch's due, of a batch among them
record IsPosted (size : ℕ) (books : Books) (month n : ℕ) (charge : Charge) : Type 0 where
  branch : List ℕ
  of : Among (keys books.branches) branch
  due : Among (dues_of_branch books month branch) charge
  early : batch_of size books month branch charge < n

is_posted : (size : ℕ) (books : Books) (month n : ℕ) (charge : Charge) → Among (posted_charges size books month n) charge → IsPosted size books month n charge
is_posted size books month n charge a =
    let of = in_flat_map (posted_of_branch size books month n) (keys books.branches) charge a in
    let kept = in_filter (λ c. nat_lt (batch_of size books month of.0 c) n) (dues_of_branch books month of.0) charge of.2 in
    record { branch = of.0; of = of.1; due = kept.0; early = ltb-true (batch_of size books month of.0 charge) n kept.1 }

-- and each such due is posted
of_posted : (size : ℕ) (books : Books) (month n : ℕ) (charge : Charge) → IsPosted size books month n charge → Among (posted_charges size books month n) charge
of_posted size books month n charge p =
    of_flat_map (posted_of_branch size books month n) (keys books.branches) p.branch charge p.of
    (of_filter (λ c. nat_lt (batch_of size books month p.branch c) n) (dues_of_branch books month p.branch) charge
    (lt-ltb (batch_of size books month p.branch charge) n p.early) p.due)

-- what is posted after more batches is so after fewer
record SaysTheSame (size : ℕ) (books : Books) (month j k : ℕ) : Type 0 where
  charges : (charge : Charge) → Among (posted_charges size books month k) charge → Among (posted_charges size books month j) charge
  parts : (part : Part) → Among (posted_parts size books month k) part → Among (posted_parts size books month j) part

says_the_same : (size : ℕ) (books : Books) (month j k : ℕ) → ArePosted books size month j → ArePosted books size month k → SaysTheSame size books month j k
says_the_same size books month j k p q = record {
  charges = λ charge a. among (posted_charges size books month j) charge
      ((p.charges charge).0 ((q.charges charge).1 (is_among (posted_charges size books month k) charge a)));
  parts = λ part a. among (posted_parts size books month j) part ((p.parts part).0 ((q.parts part).1 (is_among (posted_parts size books month k) part a)));
}

module _ (size : ℕ) (books : Books) (month j k : ℕ) (same : SaysTheSame size books month j k) (less : j < k) where
  -- no branch's first batch is the next one
  first_differs : (branch : List ℕ) → Among (keys books.branches) branch → batches_before size books month branch ≡ j → ⊥
  first_differs branch a first =
      let part = part_of month branch (posted_of_branch size books month k branch) in
      let there = of_begun size books month k branch a (omega (arith, first, less)) in
      let early : batches_before size books month branch < j = begun size books month j branch part (λ _. branch) (same.parts part there) in
      omega (arith, early, first)

  module _ (pos : 1 ≤ size) (are : AreNumbered books) where
    -- and no due is of the next batch
    due_differs : (branch : List ℕ) (charge : Charge) → Among (keys books.branches) branch → Among (dues_of_branch books month branch) charge
        → batch_of size books month branch charge ≡ j → ⊥
    due_differs branch charge a due next =
        let there = of_posted size books month k charge (record { branch = branch; of = a; due = due; early = omega (arith, next, less) }) in
        let here = is_posted size books month j charge (same.charges charge there) in
        let one = one_branch_of_due books month are here.branch branch charge here.due due in
        let early : batch_of size books month branch charge < j = subst (λ b. batch_of size books month b charge < j) one here.early in
        omega (arith, early, next)

    -- so the next one is no later batch of a branch
    later_differs : (branch : List ℕ) → Among (keys books.branches) branch
        → batches_before size books month branch < j → j < batches_before size books month branch + batches_of_branch size books month branch → ⊥
    later_differs branch a from until =
        let before = batches_before size books month branch in
        let dues = dues_of_branch books month branch in
        let q = j - before in
        let begins = batch_begins size pos (length dues) q (omega (arith, from)) (omega (arith, from, until)) in
        let at = numbered_at (place_among size dues) 0 dues (q * size) (places_numbered size books month pos are branch) begins in
        let number : place_among size dues at.0 / size ≡ q = ap (λ n. n / size) at.2 ∙ ap (λ n. n / size) (omega arith) ∙ div-mul-add q size 0 pos in
        due_differs branch at.0 a at.1 (omega (arith, number, from))

    -- and there is no next one
    none_differs : j < batches size books month → ⊥
    none_differs few =
        let held = holder (batches_of_branch size books month) text_cmp nat_list_cmp_total (keys books.branches) j (branches_rise books) few in
        elim (cases_lt (batches_before size books month held.key) j) [
          | inl later ↦ later_differs held.key held.of later held.until
          | inr first ↦ first_differs held.key held.of (let from = held.from in omega (arith, from, first))
        ]

not_less : (size : ℕ) (books : Books) (month j k : ℕ) → 1 ≤ size → AreNumbered books → ArePosted books size month j → ArePosted books size month k → j < k → ⊥
not_less size books month j k pos are p q less =
    let few = q.few in
    none_differs size books month j k (says_the_same size books month j k p q) less pos are (omega (arith, few, less))

pub one_number_of_batches : (size : ℕ) → OneNumberOfBatches size
one_number_of_batches size books month j k pos are p q = elim (cases_lt j k) [
  | inl less ↦ absurd (not_less size books month j k pos are p q less)
  | inr other ↦ elim (cases_lt k j) [
    | inl more ↦ absurd (not_less size books month k j pos are q p more)
    | inr least ↦ omega (arith, other, least)
  ]
]

-- The part rows of an open month stand for the batches that are done.
use Rattle.std.proofs.Common.{◌≡◌, refl, sym, ap, subst, ℕ, ◌≤◌, nat_eq, nat_lt, List, [], ◌∷◌, map, is_lt, arith}
use Rattle.std.specs.List.{sum_by}
use Rattle.std.specs.FinMap.{keys, values}
use Rattle.std.proofs.lemmas.Cmp.{tied_itself}
use Rattle.std.proofs.lemmas.List.Sums.{sum_by-cons}
use Rattle.dh_types.specs.declared.run.Part.{Part}
use Rattle.dh_model.specs.BatchLaws.{AreNumbered}
use Rattle.dh_model.specs.Books.{Books, StandUnder, text_cmp}
use Rattle.dh_model.specs.Runs.{batches_before, batches_for, batches_of_branch, begun_branches, part_key, part_of, posted_of_branch, posted_parts}
use Rattle.dh_model.specs.Rules.{ArePosted, parts_in}
use Rattle.dh_model.specs.Whole.{batches_shown}
use Rattle.dh_model.proofs.Among.{among, is_among}
use Rattle.dh_model.proofs.BatchLemmas.{batches_posted}
use Rattle.dh_model.proofs.BranchDues.{branches_rise}
use Rattle.dh_model.proofs.BranchSums.{sums_follow, taken_in_all}
use Rattle.dh_model.proofs.KeyOrders.{nat_text_ties, nat_text_total, text_total}
use Rattle.dh_model.proofs.Rising.{IsBefore, Rises, filter_rises, map_rises}
use Rattle.dh_laws.proofs.BatchLemmas.Counts.{Differ, rows_differ, same_sum}

module _ {X Y : Type 0} (w : Y → ℕ) (f : X → Y) where
  sum_of_map : (xs : List X) → sum_by w (map f xs) ≡ sum_by (λ x. w (f x)) xs
  sum_of_map [] = refl
  sum_of_map (x ∷ xs) =
      let rest = sum_of_map xs in
      let mapped = sum_by-cons w (f x) (map f xs) in
      let all = sum_by-cons (λ y. w (f y)) x xs in
      omega (arith, rest, mapped, all)

module _ (size : ℕ) (books : Books) (month done : ℕ) (pos : 1 ≤ size) where
  abbrev batches_of : Part → ℕ
  batches_of part = batches_for size part.count

  abbrev part_at : List ℕ → Part
  part_at branch = part_of month branch (posted_of_branch size books month done branch)

  not_twice : (a b : List ℕ) → IsBefore text_cmp a b → part_at a ≡ part_at b → ⊥
  not_twice a b before same =
      let itself : IsBefore text_cmp a a = subst (λ k. IsBefore text_cmp a k) (sym (ap (λ (part : Part). part.branch) same)) before in
      let never = ap is_lt (tied_itself text_total a) in
      cc

  -- no part row is posted twice
  posted_differ : Rises Differ (posted_parts size books month done)
  posted_differ =
      map_rises (IsBefore text_cmp) Differ part_at not_twice (begun_branches size books month done)
      (filter_rises (IsBefore text_cmp) (λ branch. nat_lt (batches_before size books month branch) done) (keys books.branches) (branches_rise books))

  module _ (leases : AreNumbered books) (parts : StandUnder part_key books.parts) (posted : ArePosted books size month done) where
    rows_are_posted : batches_shown size books month ≡ sum_by batches_of (posted_parts size books month done)
    rows_are_posted =
        let rows = parts_in books month in
        let after = posted_parts size books month done in
        same_sum batches_of rows after
        (filter_rises Differ (λ (part : Part). nat_eq part.month month) (values books.parts)
        (rows_differ nat_text_total nat_text_ties part_key books.parts parts))
        posted_differ
        (λ part a. among after part ((posted.parts part).0 (is_among rows part a)))
        (λ part a. among rows part ((posted.parts part).1 (is_among after part a)))

    -- the batches that the part rows show are those that are done
    pub shown_are_done : batches_shown size books month ≡ done
    shown_are_done =
        let own = batches_of_branch size books month in
        let few = posted.few in
        let rows = rows_are_posted in
        let mapped = sum_of_map batches_of part_at (begun_branches size books month done) in
        let all = taken_in_all own (batches_before size books month) (λ branch. batches_of (part_at branch)) done
        (batches_posted size books month pos leases done) 0 (keys books.branches)
        (sums_follow own text_cmp text_total (keys books.branches) (branches_rise books)) (omega (arith, few)) in
        omega (arith, rows, mapped, all)

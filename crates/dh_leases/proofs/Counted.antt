-- The rows that are left of a run are those of its batches, one after the other.
use Rattle.std.proofs.Common.{◌≡◌, ap, subst, inl, inr, ℕ, ◌+◌, ◌-◌, ◌≤◌, max, List, [], ◌∷◌, length, arith}
use Rattle.std.specs.List.{flat_map, sum_by}
use Rattle.std.specs.FinMap.{keys}
use Rattle.std.proofs.lemmas.List.{length-append}
use Rattle.std.proofs.lemmas.List.FromFn.{length-map-range_with_len}
use Rattle.std.proofs.lemmas.List.Sums.{sum_by-cons}
use Rattle.dh_model.specs.Books.{Books, text_cmp}
use Rattle.dh_model.specs.Runs.{batches, batches_before, batches_of_branch, dues_of_branch}
use Rattle.dh_model.proofs.Among.{Among}
use Rattle.dh_model.proofs.BranchDues.{branches_rise}
use Rattle.dh_model.proofs.BranchSums.{Follows, sums_follow}
use Rattle.dh_model.proofs.KeyOrders.{text_total}
use Rattle.dh_leases.specs.Rows.{Rows, all_rows_left, branch_run, rows_at, rows_left}
use Rattle.dh_leases.proofs.BatchBranch.{IsBatch}
use Rattle.dh_leases.proofs.Places.{AreFrom, from_both, from_range}

module _ (size : ℕ) (books : Books) (month done : ℕ) where
  abbrev own : List ℕ → ℕ
  own branch = batches_of_branch size books month branch

  abbrev before : List ℕ → ℕ
  before branch = batches_before size books month branch

  abbrev left : List ℕ → List Rows
  left branch = rows_left size books month done branch

  abbrev Batch : ℕ → Rows → Type 0
  Batch number rows = IsBatch size books month number rows

  length_left : (branch : List ℕ) → length (left branch) ≡ own branch - (done - before branch)
  length_left branch =
      length-map-range_with_len (rows_at size (branch_run books month branch) (dues_of_branch books month branch)) (done - before branch)
      (own branch - (done - before branch))

  branch_from : (branch : List ℕ) → Among (keys books.branches) branch → AreFrom Batch (max done (before branch)) (left branch)
  branch_from branch of =
      let dues = dues_of_branch books month branch in
      from_range Batch (rows_at size (branch_run books month branch) dues) (done - before branch) (own branch - (done - before branch))
      (max done (before branch))
      (λ i at from until is.
      let place : i ≡ at - before branch = omega (arith, from, until, is) in
      record {
        held = record { key = branch; of = of; from = omega (arith, from, until, is); until = omega (arith, from, until, is) };
        is = ap (rows_at size (branch_run books month branch) dues) place;
      })

  -- those of some branches, before which are a batches
  record Counted (a : ℕ) (branches : List (List ℕ)) : Type 0 where
    batches_from : AreFrom Batch (max done a) (flat_map left branches)
    count : max done a + length (flat_map left branches) ≡ max done (a + sum_by own branches)

  counted_from : (a : ℕ) (branches : List (List ℕ)) → ((b : List ℕ) → Among branches b → Among (keys books.branches) b) → Follows own before a branches
      → Counted a branches
  counted_from a [] some is = record { batches_from = tt; count = omega arith }
  counted_from a (branch ∷ branches) some is =
      let rest = counted_from (a + own branch) branches (λ b h. some b (inr h)) is.1 in
      let first : max done (before branch) ≡ max done a = ap (max done) is.0 in
      let next : max done (a + own branch) ≡ max done a + length (left branch) = omega (arith, length_left branch, is.0) in
      record {
        batches_from = from_both Batch (max done a) (left branch) (flat_map left branches)
            (subst (λ n. AreFrom Batch n (left branch)) first (branch_from branch (some branch (inl (λ _. branch)))))
            (subst (λ n. AreFrom Batch n (flat_map left branches)) next rest.batches_from);
        count = omega (arith, rest.count, next, length-append (left branch) (flat_map left branches), sum_by-cons own branch branches);
      }

  -- the rows that are left are those of the batches from that number on, as many as there are
  pub record AreTheRest (rows : List Rows) : Type 0 where
    pub batches_from : AreFrom (IsBatch size books month) done rows
    pub count : done + length rows ≡ batches size books month

  pub all_counted : done ≤ batches size books month → AreTheRest (all_rows_left size books month done)
  all_counted few =
      let branches = keys books.branches in
      let all = counted_from 0 branches (λ b h. h) (sums_follow own text_cmp text_total branches (branches_rise books)) in
      let first : max done 0 ≡ done = omega arith in
      record {
        batches_from = subst (λ n. AreFrom Batch n (all_rows_left size books month done)) first all.batches_from;
        count = omega (arith, all.count, few);
      }

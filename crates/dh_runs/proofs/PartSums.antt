-- Where no batch of a month is left, its part rows come to what its charges come to.
use Rattle.std.proofs.Common.{◌≡◌, ◌∙◌, refl, sym, ap, subst, ℕ, ◌≤◌, nat_eq, nat_lt, is_lt, List, [], ◌∷◌, length, map, Option, Some, arith}
use Rattle.std.specs.List.{flat_map, sum_by}
use Rattle.std.specs.FinMap.{entries, entries_sorted, get, is_sorted, keys, values}
use Rattle.std.proofs.lemmas.Cmp.{tied_itself}
use Rattle.std.proofs.lemmas.List.Sums.{sum_by-append, sum_by-cons}
use Rattle.dh_types.specs.declared.lease.Charge.{Charge}
use Rattle.dh_types.specs.declared.run.Part.{Part}
use Rattle.dh_types.specs.declared.run.Run.{Run}
use Rattle.dh_model.specs.Books.{Books, text_cmp}
use Rattle.dh_model.specs.Kinds.{Kind}
use Rattle.dh_model.specs.Rules.{ArePosted, charges_in, parts_in}
use Rattle.dh_model.specs.Runs.{batches, batches_before, begun_branches, closed_run, part_key, part_of, posted_charges, posted_of_branch}
use Rattle.dh_model.specs.Runs.{posted_parts, total_of}
use Rattle.dh_model.specs.Whole.{completed, whole}
use Rattle.dh_model.proofs.Among.{among, is_among}
use Rattle.dh_model.proofs.BatchLemmas.{last_batch_posts_all}
use Rattle.dh_model.proofs.BranchDues.{holds, keys_rise}
use Rattle.dh_model.proofs.KeyOrders.{nat_text_ties, nat_text_total, nat_ties, nat_total, text_total}
use Rattle.dh_model.proofs.MapRows.{get_new, inside}
use Rattle.dh_model.proofs.Rising.{IsBefore, Rises, filter_rises, map_rises}
use Rattle.dh_laws.specs.InOrder.{AreKeyed, IsInOrder}
use Rattle.dh_laws.proofs.BatchLemmas.Closing.{closing_makes_whole}
use Rattle.dh_laws.proofs.BatchLemmas.Counts.{Differ, counted, rows_differ, same_sum}
use Rattle.dh_runs.specs.Closing.{sum_of_parts, sum_over}

module _ (size : ℕ) (books : Books) (month : ℕ) (pos : 1 ≤ size) (keyed : AreKeyed books) (posted : ArePosted books size month (batches size books month)) where
  abbrev all : ℕ
  all = batches size books month

  abbrev posted_at : List ℕ → List Charge
  posted_at branch = posted_of_branch size books month all branch

  branches_rise : Rises (IsBefore text_cmp) (keys books.branches)
  branches_rise = keys_rise text_cmp (entries books.branches) (holds (is_sorted text_cmp (entries books.branches)) (entries_sorted books.branches))

  not_twice : (a b : List ℕ) → IsBefore text_cmp a b → part_of month a (posted_at a) ≡ part_of month b (posted_at b) → ⊥
  not_twice a b before same =
      let itself : IsBefore text_cmp a a = subst (λ k. IsBefore text_cmp a k) (sym (ap (λ (part : Part). part.branch) same)) before in
      let never = ap is_lt (tied_itself text_total a) in
      cc

  -- no part row is posted twice
  posted_differ : Rises Differ (posted_parts size books month all)
  posted_differ =
      map_rises (IsBefore text_cmp) Differ (λ branch. part_of month branch (posted_at branch)) not_twice (begun_branches size books month all)
      (filter_rises (IsBefore text_cmp) (λ branch. nat_lt (batches_before size books month branch) all) (keys books.branches) branches_rise)

  module _ (f : Part → ℕ) (w : Charge → ℕ) (told : (branch : List ℕ) (charges : List Charge) → f (part_of month branch charges) ≡ sum_by w charges) where
    of_branches : (branches : List (List ℕ))
        → sum_by f (map (λ branch. part_of month branch (posted_at branch)) branches) ≡ sum_by w (flat_map posted_at branches)
    of_branches [] = refl
    of_branches (branch ∷ branches) =
        let rest = of_branches branches in
        let first = sum_by-cons f (part_of month branch (posted_at branch)) (map (λ branch. part_of month branch (posted_at branch)) branches) in
        let both = sum_by-append w (posted_at branch) (flat_map posted_at branches) in
        let own = told branch (posted_at branch) in
        omega (arith, rest, first, both, own)

    rows_are_posted : sum_by f (parts_in books month) ≡ sum_by f (posted_parts size books month all)
    rows_are_posted =
        let rows = parts_in books month in
        let parts = posted_parts size books month all in
        same_sum f rows parts
        (filter_rises Differ (λ (part : Part). nat_eq part.month month) (values books.parts)
        (rows_differ nat_text_total nat_text_ties part_key books.parts (keyed Kind.Parts)))
        posted_differ
        (λ part a. among parts part ((posted.parts part).0 (is_among rows part a)))
        (λ part a. among rows part ((posted.parts part).1 (is_among parts part a)))

    pub parts_come_to : sum_by f (parts_in books month) ≡ sum_by w (posted_charges size books month all)
    parts_come_to =
        rows_are_posted
        ∙ ap (λ (branches : List (List ℕ)). sum_by f (map (λ branch. part_of month branch (posted_at branch)) branches))
        (last_batch_posts_all size books month pos (keyed Kind.Leases)).1
        ∙ of_branches (keys books.branches)

-- of the open run
module _ (size : ℕ) (books : Books) (month : ℕ) (pos : 1 ≤ size)
    (order : IsInOrder size books (Some (record { month = month; done = batches size books month }))) where
  abbrev row : Run
  row = order.shown.0

  abbrev all_charges : ℕ → List Charge
  all_charges m = posted_charges size books m (batches size books m)

  found_whole : get (whole size books).runs row.month ≡ Some (closed_run row.month row.key (all_charges row.month))
  found_whole =
      ap (λ (open_one : Option Run). get (completed size books open_one).runs row.month) order.shown.1
      ∙ get_new nat_total nat_ties books.runs row.month (closed_run row.month row.key (all_charges row.month))

  same_row : closed_run row.month row.key (charges_in books row.month) ≡ closed_run row.month row.key (all_charges row.month)
  same_row =
      inside _ _ (sym (get_new nat_total nat_ties books.runs row.month (closed_run row.month row.key (charges_in books row.month)))
      ∙ ap (λ (it : Books). get it.runs row.month) (closing_makes_whole size books month row pos order order.shown.1)
      ∙ found_whole)

  pub same_count : length (charges_in books month) ≡ length (all_charges month)
  same_count = subst (λ (m : ℕ). length (charges_in books m) ≡ length (all_charges m)) order.shown.2 (ap (λ (run : Run). run.count) same_row)

  same_total : total_of (charges_in books month) ≡ total_of (all_charges month)
  same_total = subst (λ (m : ℕ). total_of (charges_in books m) ≡ total_of (all_charges m)) order.shown.2 (ap (λ (run : Run). run.total) same_row)

  pub parts_are_charges : sum_of_parts month (parts_in books month) ≡ sum_over month (charges_in books month)
  parts_are_charges =
      let come_to = parts_come_to size books month pos order.keyed order.shown.3 in
      let count = come_to (λ part. part.count) (λ charge. 1) (λ branch charges. counted charges) ∙ sym (counted (all_charges month)) ∙ sym same_count in
      let total = come_to (λ part. part.total) (λ charge. charge.amount) (λ branch charges. refl) ∙ sym same_total in
      λ i. record { month = month; count = count i; total = total i }

use Rattle.std.proofs.Common.{◌≡◌, ◌∙◌, ℕ, ◌+◌, ◌-◌, ◌<◌, ◌≤◌, List, ◌++◌, ◌∷◌, [], ap, arith, length, map, sym, take}
use Rattle.std.specs.FinMap.{values}
use Rattle.std.specs.List.{filter, flat_map}
use Rattle.std.specs.Map.Iter.{deref}
use Rattle.std.proofs.lemmas.List.{length-take, map-append}
use Rattle.std.proofs.lemmas.Map.Iter.{iter_end, rest_more, rest_so_far}
use Rattle.dh_values.specs.declared.limits.TheConstants.{MOST_NUMBER}
use Rattle.dh_types.specs.declared.lease.Charge.{Charge}
use Rattle.dh_model.specs.Books.{Books}
use Rattle.dh_model.specs.Runs.{batch_size, dues_of_branch, part_fee_of, part_of, posted_of_branch}
use Rattle.dh_leases.proofs.FewLemmas.{few_dues, few_posted}
use Rattle.dh_leases.proofs.PostedLemmas.{charges_next, fee_row_after, has_begun, left_after, left_next, no_row_next, part_after, posted_next, rows_next}
use Rattle.dh_leases.proofs.posted.posted.Goals.{then-left-gt0+in_ok-push+in_ok-push-2, else-left-gt0}
use Rattle.dh_leases.proofs.posted.posted.Goals as goal

few_first : (books : Books) (month count : ℕ) (branch : List ℕ) (charges first : List Charge) → charges ≡ dues_of_branch books month branch
    → first ≡ take count charges → length (values books.leases) ≤ MOST_NUMBER → length first ≤ MOST_NUMBER + 1
few_first books month count branch charges first dues is few =
    omega (arith, ap length is, length-take count charges, few_dues books month branch charges dues, few)

pub part_with-requires : goal.part_with-requires
part_with-requires c =
    few_first c.args.books.now.books c.args.month _ _ _ _ (c.of_branch-all.ensures ∙ c.in_ok-dues.ensures.value c.in-Some.branch.now)
    c.first_batches-first.ensures c.in_ok-dues.ensures.few

pub fee_with-requires : goal.fee_with-requires
fee_with-requires c =
    few_first c.args.books.now.books c.args.month _ _ _ _ (c.of_branch-all.ensures ∙ c.in_ok-dues.ensures.value c.in-Some.branch.now)
    c.first_batches-first.ensures c.in_ok-dues.ensures.few

pub loop-branch-preserved : goal.loop-branch-preserved
loop-branch-preserved c =
    let b = c.args.books.now.books in
    let are = c.in_ok-dues.ensures.numbered in
    let month = c.args.month in
    let branch = c.in-Some.branch.now in
    let charges = c.of_branch-all.result.now in
    let done = map deref c.loop-branch.yielded in
    let left = c.loop-branch.left in
    let had = c.loop-branch.invariant in
    let parts = c.loop-branch.parts.items in
    let fees = c.loop-branch.fees.items in
    let all = sym (c.into_iter-branch-iterator.ensures.into_iter_gives ∙ c.branch_numbers-branch-items.ensures)
    ∙ rest_so_far deref c.loop-branch.yielded _ _ c.loop-branch.yielded_by
    ∙ ap (λ rest. done ++ rest) (rest_more deref _ _ _ c.in-Some.branch c.in-Some.is c.next.ensures.steps) in
    let dues = c.of_branch-all.ensures ∙ c.in_ok-dues.ensures.value branch in
    let one_more = map-append deref c.loop-branch.yielded (c.in-Some.branch ∷ []) in
    let row = part_after batch_size b month c.args.done in
    let fee = fee_row_after batch_size b month c.args.done in
    let begun = has_begun batch_size b month c.args.done in
    let posted = c.first_batches-first.ensures ∙ posted_next batch_size b month c.args.done (omega arith) are done _ branch all left had.left charges dues in
    let next : (c.if-left-gt0.parts.items ≡ map row (filter begun (done ++ branch ∷ [])))
    × (c.if-left-gt0.fees.items ≡ map fee (filter begun (done ++ branch ∷ []))) = elim c.if-left-gt0.branch [
      | then-left-gt0+in_ok-push+in_ok-push-2 w ↦
          let some : 0 < left = omega (arith, w.if-left-gt0.true) in (
            ap (λ v. v.items) w.parts-is ∙ w.in_ok-push.ensures.items
                ∙ rows_next batch_size b month c.args.done (omega arith) are done _ branch all left had.left charges dues row parts w.part_with.result
                had.parts some (w.part_with.ensures ∙ ap (part_of month branch) posted),
            ap (λ v. v.items) w.fees-is ∙ w.in_ok-push-2.ensures.items
                ∙ rows_next batch_size b month c.args.done (omega arith) are done _ branch all left had.left charges dues fee fees w.fee_with.result
                had.fees some (w.fee_with.ensures ∙ (λ i. part_fee_of month branch (w.fee_at.ensures i) (posted i))),
          )
      | else-left-gt0 w ↦
          let none : left ≡ 0 = omega (arith, w.if-left-gt0.false) in (
            ap (λ v. v.items) w.parts-is
                ∙ no_row_next batch_size b month c.args.done (omega arith) are done _ branch all left had.left row parts had.parts none,
            ap (λ v. v.items) w.fees-is
                ∙ no_row_next batch_size b month c.args.done (omega arith) are done _ branch all left had.left fee fees had.fees none,
          )
    ] in
    record {
      charges = c.in_ok-extend_from_slice.ensures.items ∙ ap (λ cs. c.loop-branch.charges.items ++ cs) c.first_batches-first.ensures
          ∙ charges_next batch_size b month c.args.done (omega arith) are done _ branch all left had.left charges dues c.loop-branch.charges.items had.charges
          ∙ ap (flat_map (posted_of_branch batch_size b month c.args.done)) (sym one_more);
      parts = next.0 ∙ ap (λ bs. map row (filter begun bs)) (sym one_more);
      fees = next.1 ∙ ap (λ bs. map fee (filter begun bs)) (sym one_more);
      left = c.saturating_sub-left.ensures ∙ ap (λ n. left - n) c.batches_for.ensures.value
          ∙ left_next batch_size b month c.args.done (omega arith) are done _ branch all left had.left charges dues
          ∙ ap (left_after batch_size b month c.args.done) (sym one_more);
    }

pub returns : goal.returns
returns c =
    let b = c.args.books.now.books in
    let begun = has_begun batch_size b c.args.month c.args.done in
    let given = c.into_iter-branch-iterator.ensures.into_iter_gives ∙ c.branch_numbers-branch-items.ensures in
    let all = (iter_end deref _ _ _ _ _ _ given c.loop-branch.yielded_by c.in-None.is c.next.ensures.steps).0 in
    let charges = c.loop-branch.invariant.charges ∙ ap (flat_map (posted_of_branch batch_size b c.args.month c.args.done)) all in
    record {
      charges = charges;
      parts = c.loop-branch.invariant.parts ∙ ap (λ bs. map (part_after batch_size b c.args.month c.args.done) (filter begun bs)) all;
      fees = c.loop-branch.invariant.fees ∙ ap (λ bs. map (fee_row_after batch_size b c.args.month c.args.done) (filter begun bs)) all;
      few = omega (arith, ap length charges, few_posted batch_size b c.args.month c.args.done, c.in_ok-dues.ensures.few);
    }

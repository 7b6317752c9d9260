use Rattle.std.proofs.Common.{◌∙◌, ◌-◌, ◌++◌, [], ◌∷◌, ap, arith, map, refl, sym, append-nil}
use Rattle.std.specs.List.{flat_map}
use Rattle.std.specs.Map.Iter.{deref}
use Rattle.std.proofs.lemmas.Grind.{flat_map-append}
use Rattle.std.proofs.lemmas.List.{map-append}
use Rattle.std.proofs.lemmas.Map.Iter.{iter_end, rest_more, rest_so_far}
use Rattle.dh_model.specs.Runs.{batch_size, dues_of_branch}
use Rattle.dh_leases.proofs.FewLemmas.{few_dues}
use Rattle.dh_leases.proofs.PostedLemmas.{left_after, left_before, left_next}
use Rattle.dh_leases.specs.Rows.{branch_run, rows_after, rows_left, rows_of}
use Rattle.dh_leases.specs.declared.plans.Plan.{Plan}
use Rattle.dh_leases.proofs.InTime.{in_time}
use Rattle.dh_leases.proofs.Planned.{is_plan}
use Rattle.dh_leases.proofs.plans.plan_of.Goals as goal

pub put_batches-requires : goal.put_batches-requires
put_batches-requires c =
    let dues = c.of_branch-all.ensures ∙ c.in_ok-dues.ensures.value c.in-Some.branch.now in
    omega (arith, few_dues c.args.books.now.books c.args.run.month _ _ dues, c.in_ok-dues.ensures.few)

pub loop-branch-preserved : goal.loop-branch-preserved
loop-branch-preserved c =
    let b = c.args.books.now.books in
    let are = c.in_ok-dues.ensures.numbered in
    let month = c.args.run.month in
    let run_done = c.args.run.done in
    let branch = c.in-Some.branch.now in
    let charges = c.of_branch-all.result.now in
    let done = map deref c.loop-branch.yielded in
    let left = c.loop-branch.left in
    let had = c.loop-branch.invariant in
    let all = sym (c.into_iter-branch-iterator.ensures.into_iter_gives ∙ c.branch_numbers-branch-items.ensures)
    ∙ rest_so_far deref c.loop-branch.yielded _ _ c.loop-branch.yielded_by
    ∙ ap (λ rest. done ++ rest) (rest_more deref _ _ _ c.in-Some.branch c.in-Some.is c.next.ensures.steps) in
    let dues = c.of_branch-all.ensures ∙ c.in_ok-dues.ensures.value branch in
    let one_more = map-append deref c.loop-branch.yielded (c.in-Some.branch ∷ []) in
    let rows = rows_left batch_size b month run_done in
    let run = branch_run b month branch in
    record {
      rows = c.in_ok-put_batches.ensures
          ∙ ap (λ at. map rows_of c.loop-branch.batches.items ++ rows_after batch_size at charges left) c.branch_run-at.ensures
          ∙ ap (λ some. some ++ rows_after batch_size run charges left) had.rows
          ∙ ap (λ due. flat_map rows done ++ rows_after batch_size run due left) dues
          ∙ ap (λ n. flat_map rows done ++ rows_after batch_size run (dues_of_branch b month branch) n)
          (left_before batch_size b month run_done (omega arith) are done _ branch all left had.left)
          ∙ ap (λ some. flat_map rows done ++ some) (sym (append-nil (rows branch)))
          ∙ sym (flat_map-append rows done (branch ∷ [])) ∙ ap (flat_map rows) (sym one_more);
      left = c.saturating_sub-left.ensures ∙ ap (λ n. left - n) c.batches_for.ensures.value
          ∙ left_next batch_size b month run_done (omega arith) are done _ branch all left had.left charges dues
          ∙ ap (left_after batch_size b month run_done) (sym one_more);
    }

pub returns : goal.returns
returns c =
    let b = c.args.books.now.books in
    let given = c.into_iter-branch-iterator.ensures.into_iter_gives ∙ c.branch_numbers-branch-items.ensures in
    let all = (iter_end deref _ _ _ _ _ _ given c.loop-branch.yielded_by c.in-None.is c.next.ensures.steps).0 in
    let rows = c.loop-branch.invariant.rows ∙ ap (flat_map (rows_left batch_size b c.args.run.month c.args.run.done)) all in
    let plan : Plan = record { month = c.args.run.month; done = c.args.run.done; batches = c.loop-branch.batches } in
    record { plan = λ t order shown have. is_plan b plan rows t order shown have; done = refl; in_time = in_time b plan c.number.ensures.range.1 rows }

use Rattle.std.proofs.Common.{◌∙◌, ◌++◌, ◌∷◌, [], ap, arith, map, sym}
use Rattle.std.specs.Map.Iter.{deref}
use Rattle.std.proofs.lemmas.List.{map-append}
use Rattle.std.proofs.lemmas.Map.Iter.{iter_end}
use Rattle.dh_model.specs.Runs.{part_fee_of, since_second}
use Rattle.dh_leases.proofs.FewLemmas.{few_dues}
use Rattle.dh_leases.proofs.RunLemmas.{fee_of_all}
use Rattle.dh_leases.proofs.fees.branch_fees.Goals as goal

pub fee_with-requires : goal.fee_with-requires
fee_with-requires c =
    let dues = c.of_branch.ensures ∙ c.in_ok-dues.ensures.value c.in-Some.branch.now in
    omega (arith, few_dues c.args.books.now.books c.args.month _ _ dues, c.in_ok-dues.ensures.few)

pub loop-branch-preserved : goal.loop-branch-preserved
loop-branch-preserved c =
    let b = c.args.books.now.books in
    let branch = c.in-Some.branch.now in
    let row = fee_of_all b c.args.month in
    let dues = c.of_branch.ensures ∙ c.in_ok-dues.ensures.value branch in
    let last = c.fee_with.ensures ∙ (λ i. part_fee_of c.args.month branch (c.fee_at-fee.ensures i) (dues i)) in
    c.in_ok-push.ensures.items ∙ ap (λ fs. fs ++ c.fee_with.result ∷ []) c.loop-branch.invariant
    ∙ ap (λ f. map row (map deref c.loop-branch.yielded) ++ f ∷ []) last
    ∙ sym (map-append row (map deref c.loop-branch.yielded) (branch ∷ []))
    ∙ ap (map row) (sym (map-append deref c.loop-branch.yielded (c.in-Some.branch ∷ [])))

pub returns : goal.returns
returns c =
    let b = c.args.books.now.books in
    let row = fee_of_all b c.args.month in
    let given = c.into_iter-branch-iterator.ensures.into_iter_gives ∙ c.branch_numbers-branch-items.ensures in
    let all = (iter_end deref _ _ _ _ _ _ given c.loop-branch.yielded_by c.in-None.is c.next.ensures.steps).0 in
    c.of_version.ensures ∙ (λ i. since_second (c.version.ensures i) ((c.loop-branch.invariant ∙ ap (map row) all) i))

use Rattle.std.proofs.Common.{◌∙◌, ◌++◌, ◌∷◌, [], ap, arith, map, sym, ℕ, List}
use Rattle.std.specs.Map.Iter.{deref}
use Rattle.std.proofs.lemmas.List.{map-append}
use Rattle.std.proofs.lemmas.Map.Iter.{iter_end}
use Rattle.dh_model.specs.Runs.{dues_of_branch, part_of}
use Rattle.dh_leases.proofs.FewLemmas.{few_dues}
use Rattle.dh_leases.proofs.parts.branch_parts.Goals as goal

pub part_with-requires : goal.part_with-requires
part_with-requires c =
    let dues = c.of_branch.ensures ∙ c.in_ok-dues.ensures.value c.in-Some.branch.now in
    omega (arith, few_dues c.args.books.now.books c.args.month _ _ dues, c.in_ok-dues.ensures.few)

pub loop-branch-preserved : goal.loop-branch-preserved
loop-branch-preserved c =
    let b = c.args.books.now.books in
    let branch = c.in-Some.branch.now in
    let row = λ (b' : List ℕ). part_of c.args.month b' (dues_of_branch b c.args.month b') in
    let dues = c.of_branch.ensures ∙ c.in_ok-dues.ensures.value branch in
    let last = c.part_with.ensures ∙ ap (part_of c.args.month branch) dues in
    c.in_ok-push.ensures.items ∙ ap (λ ps. ps ++ c.part_with.result ∷ []) c.loop-branch.invariant
    ∙ ap (λ p. map row (map deref c.loop-branch.yielded) ++ p ∷ []) last
    ∙ sym (map-append row (map deref c.loop-branch.yielded) (branch ∷ []))
    ∙ ap (map row) (sym (map-append deref c.loop-branch.yielded (c.in-Some.branch ∷ [])))

pub returns-clause-value : goal.returns-clause-value
returns-clause-value c =
    let row = λ (b' : List ℕ). part_of c.args.month b' (dues_of_branch c.args.books.now.books c.args.month b') in
    let given = c.into_iter-branch-iterator.ensures.into_iter_gives ∙ c.branch_numbers-branch-items.ensures in
    let all = (iter_end deref _ _ _ _ _ _ given c.loop-branch.yielded_by c.in-None.is c.next.ensures.steps).0 in
    c.loop-branch.invariant ∙ ap (map row) all

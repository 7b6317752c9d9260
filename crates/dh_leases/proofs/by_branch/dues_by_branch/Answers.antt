use Rattle.std.proofs.Common.{◌≡◌, ◌∙◌, ◌++◌, ◌∷◌, [], ap, map, sym, cond, None, Some}
use Rattle.std.specs.List.{filter}
use Rattle.std.specs.BTreeMap.{is_at}
use Rattle.std.specs.FinMap.{get}
use Rattle.std.specs.Map.Iter.{deref}
use Rattle.std.proofs.lemmas.List.{map-append}
use Rattle.std.proofs.lemmas.Map.Iter.{iter_end}
use Rattle.dh_model.specs.Books.{text_cmp}
use Rattle.dh_model.specs.Leases.{dues_among}
use Rattle.dh_leases.proofs.PartLemmas.{due_put, no_branch_more, no_due_more, of_branch}
use Rattle.dh_leases.proofs.by_branch.dues_by_branch.Goals as goal

pub loop-lease-preserved-in_default : goal.loop-lease-preserved-in_default
loop-lease-preserved-in_default c =
    let b = c.args.books.now.books in
    let lease = c.in-Some.lease.now in
    let done = map deref c.loop-lease.yielded in
    let one_more = map-append deref c.loop-lease.yielded (c.in-Some.lease ∷ []) in
    let none : [] ≡ dues_among b.endings (lease ∷ []) c.args.month = c.in_default.ensures ∙ ap (dues_among b.endings (lease ∷ [])) c.month.ensures.value in
    λ q. c.loop-lease.invariant q ∙ no_due_more b.endings b.properties c.args.month done lease q none
    ∙ ap (λ ls. dues_among b.endings (filter (of_branch b.properties q) ls) c.args.month) (sym one_more)

pub loop-lease-preserved-in_default-property : goal.loop-lease-preserved-in_default-property
loop-lease-preserved-in_default-property c =
    let b = c.args.books.now.books in
    let lease = c.in-Some.lease.now in
    let done = map deref c.loop-lease.yielded in
    let one_more = map-append deref c.loop-lease.yielded (c.in-Some.lease ∷ []) in
    let none : get b.properties lease.terms.property ≡ None = sym c.in_default-property.ensures in
    λ q. c.loop-lease.invariant q ∙ no_branch_more b.endings b.properties c.args.month done lease q none
    ∙ ap (λ ls. dues_among b.endings (filter (of_branch b.properties q) ls) c.args.month) (sym one_more)

pub loop-lease-preserved : goal.loop-lease-preserved
loop-lease-preserved c =
    let b = c.args.books.now.books in
    let lease = c.in-Some.lease.now in
    let property = c.in-Some-property.property.now in
    let charge = c.in-Some-due_in.charge in
    let done = map deref c.loop-lease.yielded in
    let one_more = map-append deref c.loop-lease.yielded (c.in-Some.lease ∷ []) in
    let there : get b.properties lease.terms.property ≡ Some property = sym c.in-Some-property.ensures in
    let its : charge ∷ [] ≡ dues_among b.endings (lease ∷ []) c.args.month = c.in-Some-due_in.ensures
    ∙ ap (dues_among b.endings (lease ∷ [])) c.month.ensures.value in
    λ q. c.in_ok-put_behind.ensures q ∙ ap (λ cs. cs ++ cond (is_at (text_cmp property.branch) q) (charge ∷ []) []) (c.loop-lease.invariant q)
    ∙ due_put b.endings b.properties c.args.month done lease q property charge there its
    ∙ ap (λ ls. dues_among b.endings (filter (of_branch b.properties q) ls) c.args.month) (sym one_more)

pub returns-clause-value : goal.returns-clause-value
returns-clause-value c =
    let b = c.args.books.now.books in
    let given = c.into_iter-lease-iterator.ensures.into_iter_gives ∙ c.leases-lease-items.ensures.rows in
    let all = (iter_end deref _ _ _ _ _ _ given c.loop-lease.yielded_by c.in-None.is c.next.ensures.steps).0 in
    λ q. c.loop-lease.invariant q ∙ ap (λ ls. dues_among b.endings (filter (of_branch b.properties q) ls) c.args.month) all

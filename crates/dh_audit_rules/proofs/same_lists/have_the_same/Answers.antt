use Rattle.std.proofs.Common.{◌∙◌, sym, Ok, rules}
use Rattle.std.specs.BTreeSet as set
use Rattle.std.proofs.lemmas.Bool.{false≢true}
use Rattle.std.proofs.lemmas.Iterator.Adapters.{YieldsList-from_vec, fact_from_collect}
use Rattle.dh_audit_rules.proofs.SameLists.{subset_among, subset_from_among}
use Rattle.dh_audit_rules.proofs.same_lists.have_the_same.Goals as goal
use Rattle.dh_audit_rules.proofs.same_lists.have_the_same.Goals.{then-is_subset, else-is_subset}

pub returns : goal.returns
returns g c = λ exact.
    let total = g.met.T.Ord.total in
    let xs = c.args.left.items in
    let ys = c.args.right.items in
    let s = c.in_ok-left.left in
    let t = c.in_ok-right.right in
    let of_xs = fact_from_collect {E = Unit {0}} (set.IsFromIterResult g.T.Ord.cmp) (Ok s) c.in_ok-left.ensures.ran
    (YieldsList-from_vec xs c.into_iter.ensures.rest (search rules)) in
    let of_ys = fact_from_collect {E = Unit {0}} (set.IsFromIterResult g.T.Ord.cmp) (Ok t) c.in_ok-right.ensures.ran
    (YieldsList-from_vec ys c.into_iter-2.ensures.rest (search rules)) in
    elim c.if-is_subset.branch [
      | then-is_subset w ↦ (
        λ yes x. (
          subset_among total xs ys s t of_xs of_ys exact (c.is_subset.ensures.0 w.if-is_subset.true) x,
          subset_among total ys xs t s of_ys of_xs exact (w.is_subset-then-is_subset.ensures.0 (sym w.result-is ∙ yes)) x,
        ),
        λ same. w.result-is ∙ w.is_subset-then-is_subset.ensures.1 (subset_from_among total ys xs t s of_ys of_xs exact (λ x. (same x).1)),
      )
      | else-is_subset w ↦ (
        λ yes. absurd (false≢true (sym w.if-is_subset.false ∙ sym w.result-is ∙ yes)),
        λ same. absurd (false≢true (sym w.if-is_subset.false ∙ c.is_subset.ensures.1 (subset_from_among total xs ys s t of_xs of_ys exact (λ x. (same x).0)))),
      )
    ]

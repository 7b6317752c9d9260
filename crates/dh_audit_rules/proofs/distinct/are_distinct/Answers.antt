use Rattle.std.proofs.Common.{◌≡◌, ◌∙◌, sym, Ok, length, rules, vec_len}
use Rattle.std.specs.BTreeSet as set
use Rattle.std.specs.Cmp.{eq_by_cmp_equiv}
use Rattle.std.proofs.lemmas.Bool.Decides.{Decides-eqb}
use Rattle.std.proofs.lemmas.Iterator.Adapters.{YieldsList-from_vec, fact_from_collect}
use Rattle.std.proofs.lemmas.Map.Made.{IsDistinct-from_count, distinct_count-from_IsDistinct}
use Rattle.std.proofs.lemmas.Map.Views.{btree_set_len-from_list}
use Rattle.dh_audit_rules.proofs.distinct.are_distinct.Goals as goal

pub returns : goal.returns
returns g c =
    let total = g.met.T.Ord.total in
    let laws = eq_by_cmp_equiv total in
    let values = c.args.values.items in
    let long : vec_len c.args.values ≡ length values = search rules in
    let made = fact_from_collect {E = Unit {0}} (set.IsFromIterResult g.T.Ord.cmp) (Ok c.in_ok-set.set) c.in_ok-set.ensures.ran
    (YieldsList-from_vec values c.into_iter.ensures.rest (search rules)) in
    let count = btree_set_len-from_list total values c.in_ok-set.set made in
    let same = Decides-eqb c.len.result c.len-count.result in (
      λ yes. IsDistinct-from_count laws values (sym (c.len.ensures.len ∙ count) ∙ same.0 yes ∙ c.len-count.ensures ∙ long),
      λ apart. same.1 (c.len.ensures.len ∙ count ∙ distinct_count-from_IsDistinct laws values apart ∙ sym (c.len-count.ensures ∙ long)),
    )

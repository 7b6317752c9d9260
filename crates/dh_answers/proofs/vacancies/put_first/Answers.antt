use Rattle.std.proofs.Common.{◌∙◌, sym, ap, cond, Some, ℕ, List}
use Rattle.std.specs.Ordering.{nat_cmp}
use Rattle.std.specs.BTreeMap as tree
use Rattle.std.specs.Cmp.{eq_by_cmp_equiv}
use Rattle.dh_model.specs.Books.{pair_cmp, text_cmp}
use Rattle.dh_model.proofs.KeyOrders.{nat_total, nat_ties, pair_total, pair_ties, text_total, text_ties}
use Rattle.dh_answers.proofs.FirstWins.{put_new, put_old}
use Rattle.dh_answers.proofs.vacancies.put_first.Goals as goal

pub returns-in_ok-_before : goal.returns-in_ok-_before
returns-in_ok-_before c = λ key.
    let k : ℕ × List ℕ = (c.args.property.rent, c.args.property.number) in
    let m = tree.get (pair_cmp nat_cmp text_cmp) c.args.found.now in
    c.in_ok-_before.ensures.updates.0 key ∙ ap (λ b. cond b (Some c.args.property) (m key)) ((eq_by_cmp_equiv (pair_total nat_total text_total)).symm k key)
    ∙ put_new (pair_ties nat_ties text_ties) m k c.args.property (sym c.contains_key.ensures ∙ c.if-not-contains_key.true) key

pub returns-else-not-contains_key : goal.returns-else-not-contains_key
returns-else-not-contains_key c = λ key.
    let k : ℕ × List ℕ = (c.args.property.rent, c.args.property.number) in
    let m = tree.get (pair_cmp nat_cmp text_cmp) c.args.found.now in
    put_old (pair_ties nat_ties text_ties) m k c.args.property (sym c.contains_key.ensures ∙ c.if-not-contains_key.false) key

use Rattle.std.proofs.Common.{◌≡◌, ◌∙◌, sym, []}
use Rattle.std.specs.FinMap.{same_map}
use Rattle.std.proofs.lemmas.Map.Iter.{rest_all}
use Rattle.dh_model.proofs.KeyOrders.{nat_total, nat_ties, pair_total, pair_ties, text_total, text_ties}
use Rattle.dh_model.proofs.MapLemmas.{get-made}
use Rattle.dh_answers.proofs.FirstWins.{nothing_after}
use Rattle.dh_answers.proofs.vacancies.by_rent.Goals as goal

pub returns : goal.returns
returns c =
    let total = pair_total nat_total text_total in
    let ended : c.loop-property.property-iterator ≡ [] = rest_all (λ e. e) _ _ _ c.in-None.is c.next.ensures.steps in
    same_map total (pair_ties nat_ties text_ties) _ _ (λ key.
    get-made total c.loop-property.found.entries key ∙ sym (nothing_after _) ∙ (rw ended at (c.loop-property.invariant key)) ∙ sym (get-made total _ key))

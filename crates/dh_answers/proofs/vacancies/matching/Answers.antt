use Rattle.std.proofs.Common.{◌≡◌, ◌∙◌, sym, ap, map, rules, tests}
use Rattle.std.specs.FinMap as fin
use Rattle.std.proofs.lemmas.Result.{IfOk-weaker}
use Rattle.std.proofs.lemmas.Iterator.{YieldsList-from_map, items_from_collect}
use Rattle.std.proofs.lemmas.Iterator.Consumers.{YieldsList-at, YieldsList-from_rest}
use Rattle.dh_model.specs.Answers.{matching}
use Rattle.dh_model.proofs.KeyOrders.{nat_total, pair_total, text_total}
use Rattle.dh_model.proofs.MapLemmas.{entries-made}
use Rattle.dh_answers.proofs.vacancies.matching.Goals as goal

pub returns : goal.returns
returns c =
    let es = c.in_ok-found.found.entries in
    let listed : map (λ e. e.1) es ≡ matching c.args.books.books c.args.client.now c.args.day
    = sym (ap (map (λ e. e.1)) (entries-made (pair_total nat_total text_total) es c.into_iter.ensures.into_iter_gives.5))
    ∙ ap fin.values c.in_ok-found.ensures in
    IfOk-weaker c.collect.result (λ rows. rows.items ≡ map (λ e. e.1) es) _ (λ rows is. is ∙ listed)
    (items_from_collect c.collect.result c.collect.ensures.ran
    (YieldsList-from_map _ (λ e. e.1) (YieldsList-at c.map.ensures.source (YieldsList-from_rest es c.into_iter.ensures.into_iter_gives.0)) c.map.ensures.closure
    (λ x r q k. search (rules, tests))))

use Rattle.std.proofs.Common.{rules, tests, Ok}
use Rattle.std.specs.FinMap as fin
use Rattle.std.proofs.lemmas.Iterator.{YieldsList-from_map, items_from_collect}
use Rattle.std.proofs.lemmas.Iterator.Consumers.{YieldsList-at, YieldsList-from_rest}
use Rattle.dh_store.proofs.answers.held_properties.Goals as goal

pub returns-clause-numbers : goal.returns-clause-numbers
returns-clause-numbers c =
    items_from_collect {E = Unit {0}} (Ok c.in_ok-collect.field-0) c.in_ok-collect.ensures.ran
    (YieldsList-from_map _ (λ property. property.number)
    (YieldsList-at c.map-numbers.ensures.source (YieldsList-from_rest (fin.values c.args.books.now.books.properties) c.properties.ensures))
    c.map-numbers.ensures.closure
    (λ x r q k. search (rules, tests)))

use Rattle.std.proofs.Common.{rules, tests}
use Rattle.std.specs.FinMap as fin
use Rattle.std.proofs.lemmas.Iterator.{YieldsList-from_map, items_from_collect}
use Rattle.std.proofs.lemmas.Iterator.Consumers.{YieldsList-at, YieldsList-from_rest}
use Rattle.dh_answers.proofs.lists.branches.Goals as goal

pub returns : goal.returns
returns c =
    let es = fin.entries c.args.books.books.branches in
    items_from_collect c.collect.result c.collect.ensures.ran
    (YieldsList-from_map _ (λ e. e.1) (YieldsList-at c.map.ensures.source (YieldsList-from_rest es c.into_branches.ensures)) c.map.ensures.closure
    (λ x r q k. search (rules, tests)))

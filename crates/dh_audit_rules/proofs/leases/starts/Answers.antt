use Rattle.std.proofs.Common.{rules, tests}
use Rattle.std.specs.FinMap as fin
use Rattle.std.proofs.lemmas.Iterator.{YieldsList-from_map, items_from_collect}
use Rattle.std.proofs.lemmas.Iterator.Consumers.{YieldsList-at, YieldsList-from_rest}
use Rattle.dh_audit_rules.proofs.leases.starts.Goals as goal

pub returns : goal.returns
returns c =
    items_from_collect c.collect.result c.collect.ensures.ran
    (YieldsList-from_map _ (λ lease. (lease.terms.client, lease.terms.start))
    (YieldsList-at c.map.ensures.source (YieldsList-from_rest (fin.values c.args.books.now.books.leases) c.leases.ensures.rows)) c.map.ensures.closure
    (λ x r q k. search (rules, tests)))

use Rattle.std.proofs.Common.{rules, tests}
use Rattle.std.specs.FinMap as fin
use Rattle.std.specs.BTreeSet as set
use Rattle.std.specs.Ordering.{nat_cmp}
use Rattle.std.proofs.lemmas.Iterator.{YieldsList-from_map}
use Rattle.std.proofs.lemmas.Iterator.Adapters.{fact_from_collect}
use Rattle.std.proofs.lemmas.Iterator.Consumers.{YieldsList-at, YieldsList-from_filter, YieldsList-from_rest}
use Rattle.std.proofs.lemmas.Result.{IfOk-weaker}
use Rattle.dh_model.proofs.KeyOrders.{nat_ties, nat_total}
use Rattle.dh_audit_rules.specs.ClosedMonths.{closed_months}
use Rattle.dh_audit_rules.proofs.SameLists.{set_tells}
use Rattle.dh_audit_rules.proofs.closed_months.closed_months.Goals as goal

pub returns : goal.returns
returns c =
    let books = c.args.books.now.books in
    IfOk-weaker c.collect.result (set.IsFromIterResult nat_cmp (closed_months books)) _ (λ s made. set_tells nat_total nat_ties (closed_months books) s made)
    (fact_from_collect (set.IsFromIterResult nat_cmp) c.collect.result c.collect.ensures.ran
    (YieldsList-from_map _ (λ run. run.month) (YieldsList-at c.map.ensures.source
    (YieldsList-from_filter _ (λ run. run.is_closed)
    (YieldsList-at c.filter.ensures.source (YieldsList-from_rest (fin.values books.runs) c.runs.ensures)) c.filter.ensures.closure
    (λ x b q k. search (rules, tests))))
    c.map.ensures.closure (λ x r q k. search (rules, tests))))

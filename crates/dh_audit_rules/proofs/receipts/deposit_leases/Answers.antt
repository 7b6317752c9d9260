use Rattle.std.proofs.Common.{rules, tests}
use Rattle.std.specs.FinMap as fin
use Rattle.std.proofs.lemmas.Iterator.{YieldsList-from_map, items_from_collect}
use Rattle.std.proofs.lemmas.Iterator.Consumers.{YieldsList-at, YieldsList-from_filter, YieldsList-from_rest}
use Rattle.dh_values.specs.declared.receipt_kind.ReceiptKind.TheVariants.{Deposit}
use Rattle.dh_types.specs.Records.{is_same_receipt_kind}
use Rattle.dh_audit_rules.proofs.receipts.deposit_leases.Goals as goal

pub returns : goal.returns
returns c =
    items_from_collect c.collect.result c.collect.ensures.ran
    (YieldsList-from_map _ (λ receipt. receipt.payment.lease) (YieldsList-at c.map.ensures.source
    (YieldsList-from_filter _ (λ receipt. is_same_receipt_kind receipt.payment.kind Deposit)
    (YieldsList-at c.filter.ensures.source (YieldsList-from_rest (fin.values c.args.books.now.books.receipts) c.receipts.ensures)) c.filter.ensures.closure
    (λ x b q k. search (rules, tests))))
    c.map.ensures.closure (λ x r q k. search (rules, tests)))

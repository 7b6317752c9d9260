use Rattle.std.proofs.Common.{rules, tests}
use Rattle.std.specs.FinMap as fin
use Rattle.dh_audit_rules.proofs.Pairs.{deposits_tell}
use Rattle.dh_audit_rules.proofs.Rows.{each_row, fails, passes}
use Rattle.dh_audit_rules.proofs.receipts.deposits_in_order.Goals as goal

pub returns-in_ok-are_distinct : goal.returns-in_ok-are_distinct
returns-in_ok-are_distinct c =
    passes (λ all. (all.amounts, all.one_each)) (λ amounts one_each. record { amounts = amounts; one_each = one_each })
    (each_row c.all.ensures.ran c.receipts.ensures (λ x b q k. search (rules, tests)))
    (deposits_tell (fin.values c.args.books.now.books.receipts) c.in_ok-deposit_leases.field-0.items _ c.in_ok-deposit_leases.ensures
    c.in_ok-are_distinct.ensures) c.if-all.true

pub returns-else-all : goal.returns-else-all
returns-else-all c = fails (λ all. all.amounts) (each_row c.all.ensures.ran c.receipts.ensures (λ x b q k. search (rules, tests))) c.if-all.false

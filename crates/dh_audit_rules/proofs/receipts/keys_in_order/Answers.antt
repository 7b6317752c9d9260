use Rattle.std.proofs.Common.{rules, tests}
use Rattle.dh_audit_rules.specs.Receipts.{all_keys}
use Rattle.dh_audit_rules.proofs.Pairs.{keys_tell}
use Rattle.dh_audit_rules.proofs.Rows.{each_row, fails, passes}
use Rattle.dh_audit_rules.proofs.receipts.keys_in_order.Goals as goal

pub returns-in_ok-are_distinct : goal.returns-in_ok-are_distinct
returns-in_ok-are_distinct c =
    passes (λ all. (all.numbers, all.keys)) (λ numbers keys. record { keys = keys; numbers = numbers })
    (each_row c.all-numbered.ensures.ran c.receipts.ensures (λ x b q k. search (rules, tests)))
    (keys_tell c.in_ok-keys.field-0.items (all_keys c.args.books.now.books) _ c.in_ok-keys.ensures c.in_ok-are_distinct.ensures) c.if-numbered.true

pub returns-else-numbered : goal.returns-else-numbered
returns-else-numbered c =
    fails (λ all. all.numbers) (each_row c.all-numbered.ensures.ran c.receipts.ensures (λ x b q k. search (rules, tests))) c.if-numbered.false

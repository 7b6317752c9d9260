use Rattle.std.proofs.Common.{rules, tests}
use Rattle.dh_audit_rules.proofs.NamedByKind.{both, named_by_kind}
use Rattle.dh_audit_rules.proofs.Rows.{each_row}
use Rattle.dh_audit_rules.proofs.references.names_what_is_there.Goals as goal

pub returns : goal.returns
returns c =
    named_by_kind c.args.books.now.books _
    (both (both (both (both (both (both (both (both (both (both (both (each_row c.all.ensures.ran c.staff.ensures (λ x b q k. search (rules, tests)))
    (each_row c.all-2.ensures.ran c.properties.ensures (λ x b q k. search (rules, tests))))
    (each_row c.all-3.ensures.ran c.registrations.ensures (λ x b q k. search (rules, tests))))
    (each_row c.all-4.ensures.ran c.viewings.ensures (λ x b q k. search (rules, tests))))
    (each_row c.all-5.ensures.ran c.inspections.ensures (λ x b q k. search (rules, tests))))
    (each_row c.all-6.ensures.ran c.leases.ensures.rows (λ x b q k. search (rules, tests))))
    (each_row c.all-7.ensures.ran c.charges.ensures (λ x b q k. search (rules, tests))))
    (each_row c.all-8.ensures.ran c.receipts.ensures (λ x b q k. search (rules, tests))))
    (each_row c.all-9.ensures.ran c.parts.ensures.rows (λ x b q k. search (rules, tests))))
    (each_row c.all-10.ensures.ran c.branch_fees.ensures (λ x b q k. search (rules, tests))))
    (each_row c.all-11.ensures.ran c.part_fees.ensures (λ x b q k. search (rules, tests))))
    (each_row c.all-12.ensures.ran c.endings.ensures (λ x b q k. search (rules, tests))))

use Rattle.std.proofs.Common.{rules, tests}
use Rattle.dh_audit_rules.proofs.FeeRows.{has_fee_by}
use Rattle.dh_audit_rules.proofs.Rows.{each_as, each_row}
use Rattle.dh_audit_rules.proofs.fees.parts_have_fees.Goals as goal

pub returns : goal.returns
returns c =
    each_as _ (has_fee_by c.args.books.now.books c.in_ok-fees.fees c.in_ok-fees.ensures)
    (each_row c.all.ensures.ran c.parts.ensures.rows (λ x b q k. search (rules, tests)))

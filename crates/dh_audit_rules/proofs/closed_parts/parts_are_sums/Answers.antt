use Rattle.std.proofs.Common.{rules, tests, ◌∙◌, sym}
use Rattle.std.specs.Ordering.{nat_cmp}
use Rattle.dh_model.specs.Books.{pair_cmp, text_cmp}
use Rattle.dh_audit_rules.specs.ClosedMonths.{IsSumIfOf, sum_at}
use Rattle.dh_audit_rules.proofs.Rows.{each_as, each_row}
use Rattle.dh_audit_rules.proofs.closed_parts.parts_are_sums.Goals as goal

pub returns : goal.returns
returns c =
    each_as {P = IsSumIfOf c.args.months.now (sum_at (pair_cmp nat_cmp text_cmp) c.in_ok-sums.sums)} _
    (λ part. let sums = c.in_ok-sums.ensures (part.month, part.branch) in (λ so of. so of ∙ sums, λ so of. so of ∙ sym sums))
    (each_row c.all.ensures.ran c.parts.ensures.rows (λ x b q k. search (rules, tests)))

use Rattle.std.proofs.Common.{◌≡◌, ◌∙◌, sym, ap}
use Rattle.std.specs.Ordering.{nat_cmp}
use Rattle.dh_model.specs.Books.{pair_cmp, text_cmp}
use Rattle.dh_audit_rules.specs.ClosedMonths.{sum_at}
use Rattle.dh_audit_rules.proofs.ClosedSums.{same_sums}
use Rattle.dh_audit_rules.proofs.closed_parts.part_is_sum.Goals as goal

pub returns : goal.returns
returns c =
    let part = c.args.part.now in
    let tells = same_sums c.of_part.result c.sum_at.result in
    let there : c.sum_at.result ≡ sum_at (pair_cmp nat_cmp text_cmp) c.args.sums.now (part.month, part.branch) =
    c.sum_at.ensures ∙ ap (sum_at (pair_cmp nat_cmp text_cmp) c.args.sums.now) c.key.ensures in (
      λ yes. sym c.of_part.ensures ∙ tells.0 (sym c.eq.ensures ∙ yes) ∙ there,
      λ same. c.eq.ensures ∙ tells.1 (c.of_part.ensures ∙ same ∙ sym there),
    )

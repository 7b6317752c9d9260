use Rattle.std.proofs.Common.{◌∙◌, [], ap, sym}
use Rattle.dh_leases.specs.declared.sums.Sum.{Sum}
use Rattle.dh_leases.specs.Sums.{sum_of}
use Rattle.dh_leases.proofs.sums.sum_of.Goals as goal

pub returns-clause-value : goal.returns-clause-value
returns-clause-value c =
    let fee = ap (λ (s : Sum). s.fee) c.nothing.ensures in
    c.sum_with.ensures.value [] (c.nothing.ensures ∙ ap (λ f. sum_of f []) (sym fee)) ∙ ap (λ f. sum_of f c.args.charges.now) fee

use Rattle.std.proofs.Common.{◌∙◌, ap, replicate, arith}
use Rattle.std.proofs.lemmas.List.{take-replicate}
use Rattle.dh_reports.proofs.columns.padding.Goals as goal

pub returns : goal.returns
returns c =
    take-replicate c.saturating_sub.result 16 32 (omega arith) ∙ ap (λ n. replicate n 32) c.saturating_sub.ensures

use Rattle.std.proofs.lemmas.Result.{IfOk-weaker}
use Rattle.dh_audit_rules.proofs.SameLists.{as_lists, part_ties}
use Rattle.dh_audit_rules.proofs.open_months.parts_are_posted.Goals as goal

pub returns : goal.returns
returns c =
    IfOk-weaker c.have_the_same.result _ _ (λ b tells. as_lists b c.in_ok-parts_in.ensures c.in_ok-posted.ensures (tells part_ties)) c.have_the_same.ensures

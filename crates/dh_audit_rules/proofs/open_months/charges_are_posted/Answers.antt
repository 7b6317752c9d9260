use Rattle.std.proofs.lemmas.Result.{IfOk-weaker}
use Rattle.dh_audit_rules.proofs.SameLists.{as_lists, charge_ties}
use Rattle.dh_audit_rules.proofs.open_months.charges_are_posted.Goals as goal

pub returns : goal.returns
returns c =
    IfOk-weaker c.have_the_same.result _ _ (λ b tells. as_lists b c.in_ok-charges_in.ensures c.in_ok-posted.ensures (tells charge_ties)) c.have_the_same.ensures

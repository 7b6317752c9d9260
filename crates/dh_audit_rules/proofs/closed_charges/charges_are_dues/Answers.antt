use Rattle.std.proofs.lemmas.Result.{IfOk-weaker}
use Rattle.dh_audit_rules.proofs.SameLists.{as_lists, charge_ties}
use Rattle.dh_audit_rules.proofs.closed_charges.charges_are_dues.Goals as goal

pub returns : goal.returns
returns c =
    IfOk-weaker c.have_the_same.result _ _
    (λ b tells. as_lists b c.in_ok-charged.ensures c.in_ok-dues_of_months.ensures (tells charge_ties)) c.have_the_same.ensures

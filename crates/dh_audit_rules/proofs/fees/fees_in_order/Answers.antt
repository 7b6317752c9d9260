use Rattle.std.proofs.Common.{◌≡◌, ◌↔◌, ◌∙◌, sym, subst, true, rules, tests}
use Rattle.std.specs.Prelude.{IfOk}
use Rattle.dh_model.specs.Rules.{HasFees}
use Rattle.dh_audit_rules.proofs.Rows.{each_row}
use Rattle.dh_audit_rules.proofs.fees.fees_in_order.Goals as goal

pub returns-in-First : goal.returns-in-First
returns-in-First c =
    subst (λ version. (c.all.result ≡ true) ↔ HasFees c.args.books.now.books version) (sym c.in-First.is ∙ c.version.ensures)
    (each_row c.all.ensures.ran c.part_fees.ensures (λ x b q k. search (rules, tests)))

pub returns-in-Second : goal.returns-in-Second
returns-in-Second c =
    subst (λ version. IfOk c.parts_have_fees.result (λ holds. (holds ≡ true) ↔ HasFees c.args.books.now.books version))
    (sym c.in-Second.is ∙ c.version.ensures) c.parts_have_fees.ensures

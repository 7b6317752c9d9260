use Rattle.std.proofs.Common.{◌∙◌, refl, sym, ap, ◌+◌, ℕ, Some, cond}
use Rattle.std.specs.Option.{unwrap_or}
use Rattle.std.specs.BTreeMap.{get}
use Rattle.std.specs.Cmp.Lexicographic.{texts_ties}
use Rattle.dh_model.specs.Books.{text_cmp}
use Rattle.dh_model.specs.Checks.{is_same_text}
use Rattle.dh_audit_rules.proofs.Counting.{one_more}
use Rattle.dh_audit_rules.proofs.staff.add.Goals as goal

pub returns : goal.returns
returns c = λ other.
    let counts = c.args.counts.now in
    let next = c.count_at-count.result + 1 in
    ap (λ o. unwrap_or o 0) (c.in_ok-_before.ensures.updates.0 other
    ∙ ap (λ b. cond b (Some next) (get text_cmp counts other)) (sym (texts_ties c.args.member other)))
    ∙ one_more counts c.args.member other next (ap (λ (n : ℕ). n + 1) c.count_at-count.ensures) (is_same_text c.args.member other) refl

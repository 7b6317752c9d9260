use Rattle.std.proofs.Common.{◌≡◌, subst, rules, tests}
use Rattle.std.specs.List.{IsAllAdjacentAnswer}
use Rattle.std.proofs.lemmas.List.Sorted.{answers_always}
use Rattle.dh_audit_rules.specs.Occupancies.{makes_way}
use Rattle.dh_audit_rules.proofs.occupancies.follow_each_other.Goals as goal

pub returns : goal.returns
returns c =
    subst (λ stays. IsAllAdjacentAnswer (λ stay next free. free ≡ makes_way stay next) stays c.is_sorted_by.result) c.deref.ensures.value
    (c.is_sorted_by.ensures.cases makes_way (answers_always _ _ _ (λ f a r f' k. search (rules, tests))))

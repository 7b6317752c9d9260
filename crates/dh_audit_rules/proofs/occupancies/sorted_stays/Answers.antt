use Rattle.std.proofs.Common.{subst, rules}
use Rattle.std.specs.List.Sorted.{IsPermutation}
use Rattle.std.proofs.lemmas.List.Sorted.{All-permutation, answers_always}
use Rattle.dh_audit_rules.specs.Occupancies.{IsSound, stay_key}
use Rattle.dh_audit_rules.proofs.occupancies.sorted_stays.Goals as goal

pub returns-clause-rows : goal.returns-clause-rows
returns-clause-rows c =
    subst (λ stays. IsPermutation stays c.sort_unstable_by_key.new.self.items) c.in_ok-stays.ensures.rows c.sort_unstable_by_key.ensures.permutation

pub returns-clause-sound : goal.returns-clause-sound
returns-clause-sound c = All-permutation IsSound _ _ c.sort_unstable_by_key.ensures.permutation c.in_ok-stays.ensures.sound

pub returns-clause-sorted : goal.returns-clause-sorted
returns-clause-sorted c = c.sort_unstable_by_key.ensures.sorted stay_key (answers_always _ _ _ (λ f a r f' k. search rules))

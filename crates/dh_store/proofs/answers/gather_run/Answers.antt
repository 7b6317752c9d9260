use Rattle.std.proofs.Common.{refl}
use Rattle.dh_store.proofs.answers.gather_run.Goals as goal

pub returns-clause-gathered : goal.returns-clause-gathered
returns-clause-gathered g c t at = c.look-2.ensures.brought.first t _ (c.in_ok-look.ensures.brought.first t _ at refl) refl

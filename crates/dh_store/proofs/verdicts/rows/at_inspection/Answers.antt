use Rattle.std.proofs.Common.{refl}
use Rattle.dh_store.proofs.verdicts.rows.at_inspection.Goals as goal

pub returns-clause-gathered : goal.returns-clause-gathered
returns-clause-gathered g c t at =
    let second = c.in_ok-look-2.ensures.brought.first t _ (c.in_ok-look.ensures.brought.first t _ at refl) refl in
    c.look-3.ensures.brought.first t _ second refl

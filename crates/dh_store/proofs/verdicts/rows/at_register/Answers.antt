use Rattle.std.proofs.Common.{refl}
use Rattle.dh_schema.proofs.ReadsInTurn.{reads_then}
use Rattle.dh_store.proofs.verdicts.rows.at_register.Goals as goal

pub returns-clause-gathered : goal.returns-clause-gathered
returns-clause-gathered g c t at =
    let staffed = c.in_ok-look-2.ensures.brought.first t _ (c.in_ok-look.ensures.brought.first t _ at refl) refl in
    c.look-4.ensures.brought.first t _ (c.in_ok-look-3.ensures.brought.first t _ staffed refl) refl

pub returns-clause-reads : goal.returns-clause-reads
returns-clause-reads g c =
    let second = reads_then c.in_ok-look.ensures.reads c.in_ok-look-2.ensures.reads in
    reads_then (reads_then second c.in_ok-look-3.ensures.reads) c.look-4.ensures.reads

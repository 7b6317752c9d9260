use Rattle.std.proofs.Common.{refl}
use Rattle.dh_laws.specs.AskedAbout.{is_owned_by}
use Rattle.dh_schema.proofs.ReadsInTurn.{reads_then}
use Rattle.dh_store.proofs.answers.gather_owned.Goals as goal

pub returns-clause-gathered : goal.returns-clause-gathered
returns-clause-gathered g c t at =
    let held = c.in_ok-look-2.ensures.brought.first t _ (c.in_ok-look.ensures.brought.first t _ at refl) refl in
    c.gather_let.ensures.gathered t _ (is_owned_by c.args.owner) held refl refl refl

pub returns-clause-reads : goal.returns-clause-reads
returns-clause-reads g c = reads_then (reads_then c.in_ok-look.ensures.reads c.in_ok-look-2.ensures.reads) c.gather_let.ensures.reads

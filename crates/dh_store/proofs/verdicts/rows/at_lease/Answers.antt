use Rattle.std.proofs.Common.{refl}
use Rattle.dh_schema.proofs.MonthsStay.{version_stays}
use Rattle.dh_schema.proofs.ReadsInTurn.{reads_then}
use Rattle.dh_store.proofs.verdicts.rows.at_lease.Goals as goal

pub leases_with_endings-requires : goal.leases_with_endings-requires
leases_with_endings-requires g c =
    let rows = reads_then c.in_ok-look.ensures.reads c.in_ok-look-2.ensures.reads in
    version_stays c.requires (reads_then rows c.in_ok-registration.ensures.reads)

pub returns-clause-gathered : goal.returns-clause-gathered
returns-clause-gathered g c t at =
    let named = c.in_ok-look-2.ensures.brought.first t _ (c.in_ok-look.ensures.brought.first t _ at refl) refl in
    c.leases_with_endings.ensures.gathered t _ (c.in_ok-registration.ensures.gathered t _ named refl refl) refl refl

pub returns-clause-reads : goal.returns-clause-reads
returns-clause-reads g c =
    let rows = reads_then c.in_ok-look.ensures.reads c.in_ok-look-2.ensures.reads in
    reads_then (reads_then rows c.in_ok-registration.ensures.reads) c.leases_with_endings.ensures.reads

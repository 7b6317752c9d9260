use Rattle.std.proofs.Common.{refl}
use Rattle.dh_schema.proofs.MonthsStay.{version_stays}
use Rattle.dh_schema.proofs.ReadsInTurn.{reads_then}
use Rattle.dh_store.proofs.answers.gather_owner.Goals as goal

pub look_later-requires-clause-ready : goal.look_later-requires-clause-ready
look_later-requires-clause-ready g c = version_stays c.requires.ready (reads_then c.in_ok-gather_charged.ensures.reads c.in_ok-look.ensures.reads)

pub returns-clause-gathered : goal.returns-clause-gathered
returns-clause-gathered g c t at =
    c.look_later.ensures.brought.first t _ (c.in_ok-look.ensures.brought.first t _ (c.in_ok-gather_charged.ensures.gathered t at) refl) refl

pub returns-clause-reads : goal.returns-clause-reads
returns-clause-reads g c = reads_then (reads_then c.in_ok-gather_charged.ensures.reads c.in_ok-look.ensures.reads) c.look_later.ensures.reads

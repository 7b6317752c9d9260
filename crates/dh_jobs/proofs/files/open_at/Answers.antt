use Rattle.std.proofs.Common.{ℕ, Bool, List, ap₂, cond}
use Rattle.std.proofs.lemmas.Option.{IfSome_then}
use Rattle.std.proofs.lemmas.Result.{IfErr-weaker}
use Rattle.sqlite_disk.specs.Events.{Event, replay}
use Rattle.sqlite_wal.specs.Recovery.{Image}
use Rattle.sqlite_wal.specs.Files.{image_at}
use Rattle.dh_jobs.proofs.FileLemmas.{opened_on}
use Rattle.dh_jobs.proofs.files.open_at.Goals as goal

pub returns-clause-opened : goal.returns-clause-opened
returns-clause-opened g c =
    let opened = c.open_from.ensures in
    opened_on (image_at g.S.Start) c.open_from.result opened.fresh opened.opened opened.found opened.guarded opened.sums

abbrev image : List ℕ → List ℕ → Image
image log db = record { log = log; db = db }

-- what a file held, by which of the two it is and what happened since
abbrev seen : List ℕ → List ℕ → Bool → List Event → List ℕ
seen log db is_log history = (replay (cond is_log log db) history).seen

pub returns-clause-left : goal.returns-clause-left
returns-clause-left g c =
    IfErr-weaker c.open_from.result _ _ (λ e h. IfSome_then e.1 h (λ left it. record {
      files = it.0;
      held_so =
          ap₂ image (ap₂ (seen g.S.Start.log g.S.Start.db) it.1.0 it.1.1) (ap₂ (seen g.S.Start.log g.S.Start.db) it.2.0 it.2.1);
      failed = λ clean. (it.3 clean).0;
      left_so = λ clean. (it.3 clean).1;
    })) c.open_from.ensures.cause

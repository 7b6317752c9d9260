use Rattle.std.proofs.Common.{map, sym}
use Rattle.dh_jobs.proofs.WordLemmas.{asked_ends, bad_ends}
use Rattle.dh_jobs.proofs.program.desk_from.Goals as goal

pub returns-in-Ok-job-clause-batch : goal.returns-in-Ok-job-clause-batch
returns-in-Ok-job-clause-batch g c is =
    let typed = map (λ word. word.now) c.args.words.now in
    asked_ends _ _ _ c.do_asked.result _ _ typed is c.in-Ok-job.job (c.in-Ok-job.ensures.ok typed (sym c.in-Ok.ensures)) c.do_asked.ensures

pub returns-in-Err-clause-batch : goal.returns-in-Err-clause-batch
returns-in-Err-clause-batch g c is =
    let typed = map (λ word. word.now) c.args.words.now in
    bad_ends _ _ (g.R.Read.remaining c.args.reader.now) c.refuse.result typed is c.in-Err.bad (c.in-Err.ensures.err typed (sym c.in-Ok.ensures))
    c.refuse.ensures

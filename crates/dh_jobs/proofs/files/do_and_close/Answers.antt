use Rattle.std.proofs.Common.{inl, refl}
use Rattle.dh_jobs.proofs.StoreLemmas.{job_closed}
use Rattle.dh_jobs.proofs.files.do_and_close.Goals as goal

pub returns-then-is_there-clause-ends : goal.returns-then-is_there-clause-ends
returns-then-is_there-clause-ends g c = record {
  last = c.do_job-done.result.1;
  done = c.do_job-done.result.0;
  told = _;
  was_clean = c.do_job-done.ensures.was_clean;
  ends = c.do_job-done.ensures.ends;
  left = c.do_job-done.ensures.crash;
  kept = c.do_job-done.ensures.kept;
  closes = inl (refl, refl);
  closed_to = c.in-Ok.ensures;
  failed = λ fine. tt;
  whole = λ fine. refl;
}

pub returns-else-is_there-clause-printed : goal.returns-else-is_there-clause-printed
returns-else-is_there-clause-printed g c =
    job_closed _ _ _ c.do_job-done.result.0 c.end_unclosed.result c.end_unclosed.ensures.closes c.args.job c.do_job-done.ensures.printed

pub returns-else-is_there-clause-ends : goal.returns-else-is_there-clause-ends
returns-else-is_there-clause-ends g c = record {
  last = c.do_job-done.result.1;
  done = c.do_job-done.result.0;
  told = _;
  was_clean = c.do_job-done.ensures.was_clean;
  ends = c.do_job-done.ensures.ends;
  left = c.do_job-done.ensures.crash;
  kept = c.do_job-done.ensures.kept;
  closes = c.end_unclosed.ensures.closes;
  closed_to = c.in-Ok.ensures;
  failed = λ fine. tt;
  whole = λ fine. refl;
}

pub returns-in-Err-clause-printed : goal.returns-in-Err-clause-printed
returns-in-Err-clause-printed g c =
    job_closed _ _ _ c.do_job-done.result.0 c.end_unclosed-in-Err.result c.end_unclosed-in-Err.ensures.closes c.args.job c.do_job-done.ensures.printed

pub returns-in-Err-clause-ends : goal.returns-in-Err-clause-ends
returns-in-Err-clause-ends g c = record {
  last = c.do_job-done.result.1;
  done = c.do_job-done.result.0;
  told = _;
  was_clean = c.do_job-done.ensures.was_clean;
  ends = c.do_job-done.ensures.ends;
  left = c.do_job-done.ensures.crash;
  kept = c.do_job-done.ensures.kept;
  closes = c.end_unclosed-in-Err.ensures.closes;
  closed_to = c.in-Err.ensures;
  failed = c.end_unclosed-in-Err.ensures.printed;
  whole = λ fine. absurd (fine c.end_unclosed-in-Err.ensures.failed);
}

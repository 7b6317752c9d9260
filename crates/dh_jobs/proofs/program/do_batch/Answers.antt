use Rattle.dh_jobs.proofs.program.do_batch.Goals as goal

pub returns-in-Some : goal.returns-in-Some
returns-in-Some g c = rw c.in-Some.is c.do_on_file.ensures

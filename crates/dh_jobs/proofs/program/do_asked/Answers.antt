use Rattle.std.proofs.Common.{sym}
use Rattle.dh_jobs.proofs.program.do_asked.Goals as goal

pub returns-in-Init : goal.returns-in-Init
returns-in-Init g c = rw c.in-Init.is c.make_on_file.ensures

pub returns-in-Batch : goal.returns-in-Batch
returns-in-Batch g c = rw c.in-Batch.is c.do_batch.ensures

pub returns-in-Run : goal.returns-in-Run
returns-in-Run g c = rw c.in-Run.is (rw (sym c.run.ensures) c.do_on_file.ensures)

pub returns-in-Recover : goal.returns-in-Recover
returns-in-Recover g c = rw c.in-Recover.is c.do_on_file-in-Recover.ensures

pub returns-in-Migrate : goal.returns-in-Migrate
returns-in-Migrate g c = rw c.in-Migrate.is c.do_on_file-in-Migrate.ensures

pub returns-in-Report : goal.returns-in-Report
returns-in-Report g c = rw c.in-Report.is c.do_on_file-in-Report.ensures

pub returns-in-Serve : goal.returns-in-Serve
returns-in-Serve g c = rw c.in-Serve.is (rw (sym c.standard.ensures.whole) c.do_on_file-in-Serve.ensures)

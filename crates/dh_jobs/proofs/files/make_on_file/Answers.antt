use Rattle.dh_jobs.specs.OnFile.FileEnds.{Opened}
use Rattle.dh_jobs.proofs.files.make_on_file.Goals as goal

pub returns-in-Ok-open_new : goal.returns-in-Ok-open_new
returns-in-Ok-open_new g c = record {
  printed = c.make_and_close-status.ensures.printed;
  ends =
      Opened c.in-Ok-open_new.conn c.make_and_close-status.result.1 c.in-Ok-open_new.ensures.opened c.make_and_close-status.ensures.ends;
}

use Rattle.dh_jobs.specs.OnFile.FileEnds.{Opened}
use Rattle.dh_jobs.proofs.files.do_on_file.Goals as goal

pub do_and_close-status-requires : goal.do_and_close-status-requires
do_and_close-status-requires g c clean =
    let found = (c.in-Ok-open_found.ensures.opened.opened clean).0 in
    record { is_open = found.is_open; autocommit = found.autocommit; settled = found.clean }

pub returns-in-Ok-open_found : goal.returns-in-Ok-open_found
returns-in-Ok-open_found g c = record {
  printed = c.do_and_close-status.ensures.printed;
  ends =
      Opened c.in-Ok-open_found.conn c.do_and_close-status.result.1 c.in-Ok-open_found.ensures.opened c.do_and_close-status.ensures.ends;
}

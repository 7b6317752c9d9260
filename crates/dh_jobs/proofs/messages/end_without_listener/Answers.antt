use Rattle.std.proofs.Common.{refl}
use Rattle.dh_jobs.proofs.messages.end_without_listener.Goals as goal

pub returns : goal.returns
returns g c = (c.print_no_listener-outcome.result, refl, c.print_no_listener-outcome.ensures)

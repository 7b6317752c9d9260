use Rattle.std.proofs.Common.{refl}
use Rattle.dh_jobs.proofs.messages.end_by_fault.Goals as goal

pub returns : goal.returns
returns g c = record { outcome = c.print_fault-outcome.result; failed = refl; written = c.print_fault-outcome.ensures }

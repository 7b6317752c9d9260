use Rattle.std.proofs.Common.{subst}
use Rattle.dh_jobs.specs.Desk.{IsLineOf}
use Rattle.dh_jobs.proofs.program.print_text.Goals as goal

pub returns-in-Ok : goal.returns-in-Ok
returns-in-Ok g c =
    let put = c.put_message-outcome.ensures in
    let line = subst (λ text. IsLineOf text put.0) c.as_str.ensures.value put.1 in
    rw c.in-Ok.is (put.0, line, (c.put_message-outcome.result, c.said.ensures, put.2))

pub returns-in-Err : goal.returns-in-Err
returns-in-Err g c = rw c.in-Err.is (c.print_fault-outcome.result, c.unsaid.ensures, c.print_fault-outcome.ensures)

use Rattle.std.proofs.Common.{inl, inr, refl}
use Rattle.dh_jobs.specs.declared.status.Status.TheVariants.{Done}
use Rattle.dh_jobs.specs.Printed.{IsRecoveryEnd}
use Rattle.dh_jobs.specs.Texts.{recovered_line}
use Rattle.dh_jobs.proofs.StoreLemmas.{prints_as, problem_prints, unanswered}
use Rattle.dh_jobs.proofs.TextLemmas.{puts_as}
use Rattle.dh_jobs.proofs.store_jobs.recover_first_file.Goals as goal

pub returns-in-Ok-clause-printed : goal.returns-in-Ok-clause-printed
returns-in-Ok-clause-printed g c =
    inl (prints_as IsRecoveryEnd recovered_line Done _ _ c.status_if_written.result (refl, refl)
    (puts_as c.print_recovered.result recovered_line Done c.status_if_written.result _ _ c.status_if_written.ensures c.print_recovered.ensures))

pub returns-in-Ok-clause-ends : goal.returns-in-Ok-clause-ends
returns-in-Ok-clause-ends g c clean =
    inl (
      c.in-Ok.ensures.takes.taken clean,
      (c.in-Ok.ensures.recovered clean).1,
      puts_as c.print_recovered.result recovered_line Done c.status_if_written.result _ _ c.status_if_written.ensures c.print_recovered.ensures,
    )

pub returns-in-Err-clause-printed : goal.returns-in-Err-clause-printed
returns-in-Err-clause-printed g c =
    inr (problem_prints c.in-Err.field-0.cause _ _ c.end_by_problem.result c.in-Err.ensures.takes.cause c.end_by_problem.ensures)

pub returns-in-Err-clause-ends : goal.returns-in-Err-clause-ends
returns-in-Err-clause-ends g c clean =
    inr (record { problem = c.in-Err.field-0.cause; cause = c.in-Err.ensures.takes.refused clean; told = c.end_by_problem.ensures }, c.in-Err.ensures.crash)

pub returns-in-Err-clause-kept : goal.returns-in-Err-clause-kept
returns-in-Err-clause-kept g c clean answered = absurd (unanswered c.in-Err.field-0.cause _ _ c.end_by_problem.result c.end_by_problem.ensures answered)

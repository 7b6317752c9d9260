use Rattle.std.proofs.Common.{◌≡◌, inl, inr, refl}
use Rattle.sqlite.specs.Held.{state}
use Rattle.dh_agency.specs.Store.{tables}
use Rattle.dh_agency.specs.Migrated.{migrated_state}
use Rattle.dh_jobs.specs.declared.status.Status.TheVariants.{Done}
use Rattle.dh_jobs.specs.Printed.{IsMigrationEnd}
use Rattle.dh_jobs.specs.Texts.{migrated_line}
use Rattle.dh_jobs.proofs.StoreLemmas.{back, kept_behind, not_migrated_prints, prints_as, unanswered, was_clean}
use Rattle.dh_jobs.proofs.TextLemmas.{puts_as}
use Rattle.dh_jobs.proofs.store_jobs.migrate_file.Goals as goal

pub returns-in-Ok-clause-printed : goal.returns-in-Ok-clause-printed
returns-in-Ok-clause-printed g c =
    inl (prints_as IsMigrationEnd migrated_line Done _ _ c.status_if_written.result (refl, refl)
    (puts_as c.print_migrated.result migrated_line Done c.status_if_written.result _ _ c.status_if_written.ensures c.print_migrated.ensures))

pub returns-in-Ok-clause-ends : goal.returns-in-Ok-clause-ends
returns-in-Ok-clause-ends g c clean =
    let made = c.in-Ok.agency in
    let at = was_clean g.S.Store made c.into_store.result c.into_store.ensures clean in
    inl (
      c.in-Ok.ensures.takes.taken at,
      back g.S.Store made c.into_store.result c.into_store.ensures (λ new. tables new ≡ migrated_state (tables (state g.S.Store c.args.conn)))
          (c.in-Ok.ensures.migrated.1 at),
      puts_as c.print_migrated.result migrated_line Done c.status_if_written.result _ _ c.status_if_written.ensures c.print_migrated.ensures,
    )

pub returns-in-Err-clause-printed : goal.returns-in-Err-clause-printed
returns-in-Err-clause-printed g c =
    inr (not_migrated_prints c.in-Err.field-0.cause _ _ c.end_by_problem.result c.in-Err.ensures.takes.cause c.end_by_problem.ensures)

pub returns-in-Err-clause-ends : goal.returns-in-Err-clause-ends
returns-in-Err-clause-ends g c clean =
    inr (
      record { problem = c.in-Err.field-0.cause; cause = c.in-Err.ensures.takes.refused clean; told = c.end_by_problem.ensures },
      c.in-Err.ensures.stays clean,
    )

pub returns-in-Ok-clause-kept : goal.returns-in-Ok-clause-kept
returns-in-Ok-clause-kept g c =
    kept_behind g.S.Store c.in-Ok.agency c.into_store.result c.into_store.ensures c.status_if_written.result (λ clean answered. c.in-Ok.ensures.left clean)

pub returns-in-Err-clause-kept : goal.returns-in-Err-clause-kept
returns-in-Err-clause-kept g c clean answered = absurd (unanswered c.in-Err.field-0.cause _ _ c.end_by_problem.result c.end_by_problem.ensures answered)

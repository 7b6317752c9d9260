use Rattle.std.proofs.Common.{◌∙◌, inl, inr, refl, subst, sym}
use Rattle.std.proofs.lemmas.Bool.{false≢true}
use Rattle.sqlite.specs.Held.{state}
use Rattle.dh_types.specs.declared.version.Version.TheVariants.{Second}
use Rattle.dh_agency.specs.Store.{tables}
use Rattle.dh_agency.specs.Taking.{IsOfVersion, IsProblemOf}
use Rattle.dh_agency.specs.Outcomes.{IsRecovered}
use Rattle.dh_jobs.specs.declared.status.Status.TheVariants.{Done}
use Rattle.dh_jobs.specs.Printed.{IsRecoveryEnd}
use Rattle.dh_jobs.specs.Texts.{recovered_line}
use Rattle.dh_jobs.proofs.StoreLemmas.{back, forward_again, kept_behind, prints_as, problem_prints, recovered_again, second_cause, unanswered}
use Rattle.dh_jobs.proofs.StoreLemmas.{was_clean}
use Rattle.dh_jobs.proofs.TextLemmas.{puts_as}
use Rattle.dh_jobs.proofs.store_jobs.recover_file.Goals as goal

pub returns-in-Ok-clause-printed : goal.returns-in-Ok-clause-printed
returns-in-Ok-clause-printed g c =
    inl (prints_as IsRecoveryEnd recovered_line Done _ _ c.status_if_written.result (refl, refl)
    (puts_as c.print_recovered.result recovered_line Done c.status_if_written.result _ _ c.status_if_written.ensures c.print_recovered.ensures))

pub returns-in-Ok-clause-ends : goal.returns-in-Ok-clause-ends
returns-in-Ok-clause-ends g c clean =
    let made = c.in-Ok.agency in
    let at = was_clean g.S.Store made c.into_store.result c.into_store.ensures clean in
    inl (
      inr (c.in-Ok.ensures.takes.taken at),
      back g.S.Store made c.into_store.result c.into_store.ensures (λ new. IsRecovered (tables (state g.S.Store c.args.conn)) (tables new))
          (c.in-Ok.ensures.recovered.1 at),
      puts_as c.print_recovered.result recovered_line Done c.status_if_written.result _ _ c.status_if_written.ensures c.print_recovered.ensures,
    )

pub returns-then-is_first-clause-ends : goal.returns-then-is_first-clause-ends
returns-then-is_first-clause-ends g c clean =
    let old = state g.S.Store c.args.conn in
    let is = c.is_first.ensures.0 c.if-is_first.true in
    recovered_again old (state g.S.Store c.in-Err.field-0.conn) (state g.S.Store c.recover_first_file.result.1) c.in-Err.ensures.crash
    (λ at. c.in-Err.ensures.takes.of_version at (subst IsOfVersion (sym is) tt))
    c.recover_first_file.ensures.crash _ _ c.recover_first_file.result.0
    (λ at. (subst (IsProblemOf Second old.now.trees) is (c.in-Err.ensures.takes.refused at)).0)
    clean (c.recover_first_file.ensures.ends clean)

pub returns-then-is_first-clause-crash : goal.returns-then-is_first-clause-crash
returns-then-is_first-clause-crash g c =
    let is = c.is_first.ensures.0 c.if-is_first.true in
    forward_again (state g.S.Store c.args.conn) (state g.S.Store c.in-Err.field-0.conn) (state g.S.Store c.recover_first_file.result.1) c.in-Err.ensures.crash
    (λ at. c.in-Err.ensures.takes.of_version at (subst IsOfVersion (sym is) tt)) c.recover_first_file.ensures.crash

pub returns-else-is_first-clause-printed : goal.returns-else-is_first-clause-printed
returns-else-is_first-clause-printed g c =
    inr (problem_prints c.in-Err.field-0.cause _ _ c.end_by_problem.result c.in-Err.ensures.takes.cause c.end_by_problem.ensures)

pub returns-else-is_first-clause-ends : goal.returns-else-is_first-clause-ends
returns-else-is_first-clause-ends g c clean =
    let cause =
    second_cause (state g.S.Store c.args.conn).now.trees c.in-Err.field-0.cause
    (λ is. false≢true (sym c.if-is_first.false ∙ c.is_first.ensures.1 is)) (c.in-Err.ensures.takes.refused clean) in
    inr (record { problem = c.in-Err.field-0.cause; cause = cause; told = c.end_by_problem.ensures }, c.in-Err.ensures.crash)

pub returns-in-Ok-clause-kept : goal.returns-in-Ok-clause-kept
returns-in-Ok-clause-kept g c =
    kept_behind g.S.Store c.in-Ok.agency c.into_store.result c.into_store.ensures c.status_if_written.result (λ clean answered. c.in-Ok.ensures.left clean)

pub returns-else-is_first-clause-kept : goal.returns-else-is_first-clause-kept
returns-else-is_first-clause-kept g c clean answered =
    absurd (unanswered c.in-Err.field-0.cause _ _ c.end_by_problem.result c.end_by_problem.ensures answered)

use Rattle.std.proofs.Common.{arith, inl, inr}
use Rattle.sqlite.specs.Held.{state}
use Rattle.dh_agency.specs.Agency.{IsClean}
use Rattle.dh_jobs.proofs.StoreLemmas.{kept_behind, kept_leaves, problem_prints, unanswered, was_clean, work_ends}
use Rattle.dh_jobs.proofs.store_jobs.take.Goals as goal

pub returns-in-Ok-clause-ends : goal.returns-in-Ok-clause-ends
returns-in-Ok-clause-ends g c clean =
    let taken = c.in-Ok.agency in
    let after = c.work_on-status.new.agency in
    let last = c.into_store.result in
    let now = was_clean g.S.Store after last c.into_store.ensures clean in
    let first : IsClean g.S.Store taken = omega (arith, c.work_on-status.ensures.was_clean, now) in
    inl (
      c.in-Ok.ensures.takes.taken first,
      after.is_stopped,
      work_ends g.S.Store after last c.into_store.ensures _ _ c.work_on-status.result c.args.conn taken (c.in-Ok.ensures.attached.1 first) _ c.args.work
          (c.work_on-status.ensures.ends now),
    )

pub returns-in-Err-clause-printed : goal.returns-in-Err-clause-printed
returns-in-Err-clause-printed g c =
    inr (problem_prints c.in-Err.field-0.cause _ _ c.end_by_problem.result c.in-Err.ensures.takes.cause c.end_by_problem.ensures)

pub returns-in-Err-clause-crash : goal.returns-in-Err-clause-crash
returns-in-Err-clause-crash g c = kept_leaves (state g.S.Store c.args.conn) (state g.S.Store c.in-Err.field-0.conn) c.args.work c.in-Err.ensures.crash

pub returns-in-Ok-clause-kept : goal.returns-in-Ok-clause-kept
returns-in-Ok-clause-kept g c =
    kept_behind g.S.Store c.work_on-status.new.agency c.into_store.result c.into_store.ensures c.work_on-status.result
    (λ clean. c.work_on-status.ensures.kept (c.in-Ok.ensures.left (omega (arith, c.work_on-status.ensures.was_clean, clean))) clean)

pub returns-in-Err-clause-kept : goal.returns-in-Err-clause-kept
returns-in-Err-clause-kept g c clean answered = absurd (unanswered c.in-Err.field-0.cause _ _ c.end_by_problem.result c.end_by_problem.ensures answered)

pub returns-in-Err-clause-ends : goal.returns-in-Err-clause-ends
returns-in-Err-clause-ends g c clean =
    inr (
      record { problem = c.in-Err.field-0.cause; cause = c.in-Err.ensures.takes.refused clean; told = c.end_by_problem.ensures },
      c.in-Err.ensures.crash,
    )

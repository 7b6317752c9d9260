use Rattle.std.proofs.Common.{[], arith, inl, inr, subst}
use Rattle.sqlite.specs.Held.{state}
use Rattle.dh_agency.specs.Tables.{IsSound}
use Rattle.dh_agency.specs.Agency.{IsClean, shown_by, stand}
use Rattle.dh_http.proofs.ServingLemmas.{begins}
use Rattle.dh_jobs.specs.Printed.{Served}
use Rattle.dh_jobs.proofs.StoreLemmas.{kept_behind, kept_serving, problem_prints, served_whole, serving_ends, serving_leaves, serving_prints}
use Rattle.dh_jobs.proofs.StoreLemmas.{stands_by, unanswered, was_clean}
use Rattle.dh_jobs.proofs.service.answer_requests.Goals as goal

pub returns-in-Ok-clause-printed : goal.returns-in-Ok-clause-printed
returns-in-Ok-clause-printed g c =
    let did = c.serve-outcome.ensures.served in
    inl (
      did.0,
      Served c.serve-outcome.result
          (serving_prints c.args.service did.0 _ _ _ c.serve-outcome.result c.end_serving-status.result
          (λ fault is. (c.serve-outcome.ensures.fault fault is).1) did.2 c.end_serving-status.ensures),
    )

pub returns-in-Ok-clause-ends : goal.returns-in-Ok-clause-ends
returns-in-Ok-clause-ends g c clean =
    let taken = c.in-Ok.agency in
    let after = c.serve-outcome.new.agency in
    let did = c.serve-outcome.ensures.served in
    let still : IsClean g.S.Store after = was_clean g.S.Store after c.into_store.result c.into_store.ensures clean in
    let first : IsClean g.S.Store taken = omega (arith, c.serve-outcome.ensures.was_clean, still) in
    let served = did.1 (stand g.S.Store taken) [] (λ at. begins g.S.Store taken c.in-Ok.ensures.attached.0 (c.in-Ok.ensures.left at)) still in
    inl (
      c.in-Ok.ensures.takes.taken first,
      serving_ends g.S.Store after c.into_store.result c.into_store.ensures c.args.conn taken (c.in-Ok.ensures.attached.1 first) did.0 served _ _
          c.args.service c.end_serving-status.result
          (stands_by c.args.service did.0 _ _ _ c.end_serving-status.result _ _ after.is_stopped c.serve-outcome.result c.serve-outcome.ensures.going
          c.serve-outcome.ensures.stopped c.serve-outcome.ensures.fault did.2 served.told c.end_serving-status.ensures)
          (Served c.serve-outcome.result
          (serving_prints c.args.service did.0 _ _ _ c.serve-outcome.result c.end_serving-status.result
          (λ fault is. (c.serve-outcome.ensures.fault fault is).1) did.2 c.end_serving-status.ensures)),
    )

pub returns-in-Ok-clause-crash : goal.returns-in-Ok-clause-crash
returns-in-Ok-clause-crash g c =
    let taken = c.in-Ok.agency in
    let after = c.serve-outcome.new.agency in
    let did = c.serve-outcome.ensures.served in
    let same = c.into_store.ensures in
    record {
      served = λ clean sound.
          let still : IsClean g.S.Store after = was_clean g.S.Store after c.into_store.result same clean in
          let first : IsClean g.S.Store taken = omega (arith, c.serve-outcome.ensures.was_clean, still) in
          let served = did.1 (stand g.S.Store taken) [] (λ at. begins g.S.Store taken c.in-Ok.ensures.attached.0 (c.in-Ok.ensures.left at)) still in
          serving_leaves g.S.Store after c.into_store.result same c.args.conn taken (c.in-Ok.ensures.attached.1 first) did.0 served;
      untouched = λ clean wrong.
          let still : IsClean g.S.Store after = was_clean g.S.Store after c.into_store.result same clean in
          let first : IsClean g.S.Store taken = omega (arith, c.serve-outcome.ensures.was_clean, still) in
          let rests = c.in-Ok.ensures.left first in
          absurd (wrong (subst IsSound (c.in-Ok.ensures.kept.crash first (shown_by g.S.Store taken).now.trees rests.some) rests.sound));
    }

pub returns-in-Err-clause-printed : goal.returns-in-Err-clause-printed
returns-in-Err-clause-printed g c =
    inr (problem_prints c.in-Err.field-0.cause _ _ c.end_by_problem.result c.in-Err.ensures.takes.cause c.end_by_problem.ensures)

pub returns-in-Err-clause-crash : goal.returns-in-Err-clause-crash
returns-in-Err-clause-crash g c = kept_serving (state g.S.Store c.args.conn) (state g.S.Store c.in-Err.field-0.conn) c.in-Err.ensures.crash

pub returns-in-Ok-clause-kept : goal.returns-in-Ok-clause-kept
returns-in-Ok-clause-kept g c =
    let taken = c.in-Ok.agency in
    let after = c.serve-outcome.new.agency in
    kept_behind g.S.Store after c.into_store.result c.into_store.ensures c.end_serving-status.result
    (λ still answered.
    let first : IsClean g.S.Store taken = omega (arith, c.serve-outcome.ensures.was_clean, still) in
    let served = c.serve-outcome.ensures.served.1 (stand g.S.Store taken) []
    (λ at. begins g.S.Store taken c.in-Ok.ensures.attached.0 (c.in-Ok.ensures.left at)) still in
    served.rests (served_whole c.serve-outcome.result _ _ c.end_serving-status.result c.end_serving-status.ensures answered c.serve-outcome.ensures.going))

pub returns-in-Err-clause-kept : goal.returns-in-Err-clause-kept
returns-in-Err-clause-kept g c clean answered = absurd (unanswered c.in-Err.field-0.cause _ _ c.end_by_problem.result c.end_by_problem.ensures answered)

pub returns-in-Err-clause-ends : goal.returns-in-Err-clause-ends
returns-in-Err-clause-ends g c clean =
    inr (
      record { problem = c.in-Err.field-0.cause; cause = c.in-Err.ensures.takes.refused clean; told = c.end_by_problem.ensures },
      c.in-Err.ensures.crash,
    )

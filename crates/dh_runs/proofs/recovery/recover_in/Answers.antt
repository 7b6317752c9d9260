use Rattle.std.proofs.Common.{arith}
use Rattle.sqlite.specs.State.{HasCleanDisk}
use Rattle.sqlite.specs.Held.{state}
use Rattle.dh_runs.proofs.Carried.{on_err}
use Rattle.dh_runs.proofs.Taken.{left_forward, left_halted, moved_forward, moved_halted, not_untaken, version_recovered}
use Rattle.dh_runs.proofs.recovery.recover_in.Goals as goal

pub returns-in_err-check-clause-forward : goal.returns-in_err-check-clause-forward
returns-in_err-check-clause-forward g c = left_forward _ _ c.check.ensures.kept

pub returns-in_err-check-clause-halted : goal.returns-in_err-check-clause-halted
returns-in_err-check-clause-halted g c =
    let kept = c.check.ensures.kept in
    on_err c.from_residual.result
    (left_halted _ _ (λ clean. (c.schema-listed.ensures.live (c.requires (omega (arith, kept.was_clean, clean))).is_open).0) kept)

pub returns-in_err-finish-clause-forward : goal.returns-in_err-finish-clause-forward
returns-in_err-finish-clause-forward g c =
    moved_forward _ _ _ _ c.check.ensures.kept (λ at. (c.in_ok-check.ensures.ready at).is_open) c.in_ok-check.ensures.takes.taken
    c.finish.ensures.was_clean c.finish.ensures.crash

pub returns-in_err-finish-clause-halted : goal.returns-in_err-finish-clause-halted
returns-in_err-finish-clause-halted g c =
    on_err c.from_residual-in_err-finish.result
    (moved_halted _ _ _ _ c.check.ensures.kept (λ at. (c.in_ok-check.ensures.ready at).is_open) c.in_ok-check.ensures.takes.taken
    c.finish.ensures.was_clean c.in_err-finish.ensures.halted)

pub returns-in_err-finish-clause-not_taken : goal.returns-in_err-finish-clause-not_taken
returns-in_err-finish-clause-not_taken g c =
    not_untaken _ _ _ _ c.check.ensures.kept (λ at. (c.in_ok-check.ensures.ready at).is_open) c.in_ok-check.ensures.takes.taken c.finish.ensures.was_clean

pub returns-clause-version : goal.returns-clause-version
returns-clause-version g c clean =
    let mid = state g.S.Store c.check.new.conn in
    let early : HasCleanDisk mid = omega (arith, c.finish.ensures.was_clean, clean) in
    version_recovered c.args.wanted mid (state g.S.Store c.finish.new.conn) (c.in_ok-check.ensures.version early) (c.in_ok-finish.ensures.recovered clean).1

pub returns-clause-takes : goal.returns-clause-takes
returns-clause-takes g c =
    let it = c.in_ok-check.ensures.takes in
    record {
      taken = λ clean. it.taken (omega (arith, c.finish.ensures.was_clean, clean));
      refused = λ clean. tt;
      cause = tt;
      of_version = λ clean. tt;
      others = λ wrong. absurd (it.others wrong).0;
      another = λ clean given. absurd (it.another (omega (arith, c.finish.ensures.was_clean, clean)) given);
    }

pub returns-clause-forward : goal.returns-clause-forward
returns-clause-forward g c =
    moved_forward _ _ _ _ c.check.ensures.kept (λ at. (c.in_ok-check.ensures.ready at).is_open) c.in_ok-check.ensures.takes.taken
    c.finish.ensures.was_clean c.finish.ensures.crash

pub returns-clause-not_taken : goal.returns-clause-not_taken
returns-clause-not_taken g c =
    not_untaken _ _ _ _ c.check.ensures.kept (λ at. (c.in_ok-check.ensures.ready at).is_open) c.in_ok-check.ensures.takes.taken c.finish.ensures.was_clean

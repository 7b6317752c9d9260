use Rattle.std.proofs.Common.{◌∙◌, ap, arith}
use Rattle.sqlite.specs.Effect.{Database}
use Rattle.sqlite.specs.State.{HasCleanDisk}
use Rattle.sqlite.specs.Held.{state}
use Rattle.dh_schema.proofs.Putting.{both_ok}
use Rattle.dh_runs.proofs.Taken.{rows_taken, version_taken}
use Rattle.dh_runs.proofs.checks.checked_books.Goals as goal

pub returns-clause-version : goal.returns-clause-version
returns-clause-version g c clean =
    let old = state g.S.Store c.args.conn.now in
    let mid = state g.S.Store c.check_version.new.conn in
    let new = state g.S.Store c.check_rows.new.conn in
    let early : HasCleanDisk mid = omega (arith, c.check_rows.ensures.kept.was_clean, clean) in
    let first = (c.check_version.ensures.same early (c.in_ok-version.ensures.still early)).1 in
    both_ok c.check_rows.result
    (λ sound still. version_taken c.args.wanted old mid new (c.in_ok-version.ensures.wanted early) first sound (c.check_rows.ensures.kept.same clean still).1)
    (c.check_rows.ensures.sound clean) (c.check_rows.ensures.still clean)

pub returns-clause-takes : goal.returns-clause-takes
returns-clause-takes g c =
    rows_taken g.S.Store c.args.wanted c.args.conn.now c.check_version.new.conn c.check_rows.new.conn c.check_rows.result c.in_ok-version.ensures.ours
    c.in_ok-version.ensures.wanted c.in_ok-version.ensures.another
    (λ early. (c.check_version.ensures.same early (c.in_ok-version.ensures.still early)).1) c.check_rows.ensures.kept.was_clean
    c.check_rows.ensures.sound c.check_rows.ensures.refused c.check_rows.ensures.cause

pub returns-clause-kept : goal.returns-clause-kept
returns-clause-kept g c =
    let early = λ (clean : HasCleanDisk (state g.S.Store c.check_rows.new.conn)).
    let at : HasCleanDisk (state g.S.Store c.check_version.new.conn) = omega (arith, c.check_rows.ensures.kept.was_clean, clean) in
    (c.check_version.ensures.same at (c.in_ok-version.ensures.still at)).1 in
    record {
      was_clean = omega (arith, c.check_version.ensures.was_clean, c.check_rows.ensures.kept.was_clean);
      same = λ clean up. let it = c.check_rows.ensures.kept.same clean up in (it.0, it.1 ∙ early clean);
      crash = λ clean left may. c.check_rows.ensures.kept.crash clean left may ∙ ap (λ (d : Database). d.trees) (early clean);
    }

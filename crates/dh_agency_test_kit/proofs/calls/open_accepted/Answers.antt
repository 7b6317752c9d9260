use Rattle.std.proofs.Common.{◌≡◌, subst}
use Rattle.sqlite.specs.Held.{state}
use Rattle.dh_types.specs.declared.command.Command.{Command}
use Rattle.dh_model.specs.declared.rows.Verdict.TheVariants as verdict
use Rattle.dh_model.specs.Verdicts.{verdict_on}
use Rattle.dh_schema.specs.Store.{tables}
use Rattle.dh_runs.proofs.Carried.{open_is_accepted}
use Rattle.dh_agency_test_kit.proofs.calls.open_accepted.Goals as goal

pub open_run-requires-clause-none : goal.open_run-requires-clause-none
open_run-requires-clause-none g c clean =
    let s = tables (state g.S.Store c.args.conn.now) in
    let is = subst (λ (told : Command). verdict_on s.books s.open_run told ≡ verdict.Change c.args.rows.now) c.in-Open.is (c.requires.verdict clean) in
    (open_is_accepted s.books s.open_run c.in-Open.order c.args.rows.now is).0

pub open_run-requires-clause-verdict : goal.open_run-requires-clause-verdict
open_run-requires-clause-verdict g c clean =
    let s = tables (state g.S.Store c.args.conn.now) in
    let is = subst (λ (told : Command). verdict_on s.books s.open_run told ≡ verdict.Change c.args.rows.now) c.in-Open.is (c.requires.verdict clean) in
    (c.in-Open.order, (open_is_accepted s.books s.open_run c.in-Open.order c.args.rows.now is).1)

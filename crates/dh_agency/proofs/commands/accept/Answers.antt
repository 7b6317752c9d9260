use Rattle.std.proofs.Common.{◌≡◌, sym, subst, arith}
use Rattle.sqlite.specs.State.{HasCleanDisk}
use Rattle.sqlite.specs.Held.{state}
use Rattle.dh_types.specs.declared.command.Command.{Command}
use Rattle.dh_types.specs.declared.reply.Reply.TheVariants as reply
use Rattle.dh_model.specs.declared.rows.Verdict.TheVariants as verdict
use Rattle.dh_model.specs.Verdicts.{verdict_on}
use Rattle.dh_schema.specs.Store.{Leaves, tables}
use Rattle.dh_laws.proofs.CommandLemmas.Carried.{same_cut}
use Rattle.dh_laws.proofs.VerdictLemmas.Cases.{other_than, plain_rows}
use Rattle.dh_runs.specs.Outcomes.{IsInterrupted, IsAnsweredBy}
use Rattle.dh_runs.proofs.Carried.{on_err, open_is_accepted}
use Rattle.dh_agency.proofs.Carried.{open_crash, open_said}
use Rattle.dh_agency.proofs.commands.accept.Goals as goal

pub open_run-requires-clause-none : goal.open_run-requires-clause-none
open_run-requires-clause-none g c was =
    let s = tables (state g.S.Store c.args.conn.now) in
    let is = subst (λ (told : Command). verdict_on s.books s.open_run told ≡ verdict.Change c.args.change.now) c.in-Open.is (c.requires.verdict was) in
    (open_is_accepted s.books s.open_run c.in-Open.order c.args.change.now is).0

pub open_run-requires-clause-verdict : goal.open_run-requires-clause-verdict
open_run-requires-clause-verdict g c was =
    let s = tables (state g.S.Store c.args.conn.now) in
    let is = subst (λ (told : Command). verdict_on s.books s.open_run told ≡ verdict.Change c.args.change.now) c.in-Open.is (c.requires.verdict was) in
    (c.in-Open.order, (open_is_accepted s.books s.open_run c.in-Open.order c.args.change.now is).1)

pub returns-in_err-open_run-in-Open-clause-crash : goal.returns-in_err-open_run-in-Open-clause-crash
returns-in_err-open_run-in-Open-clause-crash g c clean =
    let old = state g.S.Store c.args.conn.now in
    let was : HasCleanDisk old = omega (arith, clean, c.open_run.ensures.steps.was_clean) in
    let s = tables old in
    let is = subst (λ (told : Command). verdict_on s.books s.open_run told ≡ verdict.Change c.args.change.now) c.in-Open.is (c.requires.verdict was) in
    subst (λ (told : Command). Leaves (state g.S.Store c.open_run.new.conn) (IsInterrupted told s)) (sym c.in-Open.is)
    (open_crash c.in-Open.order c.args.change.now old (c.requires.ready was) is (state g.S.Store c.open_run.new.conn) (c.open_run.ensures.steps.crash clean))

pub returns-in_ok-open_run-in-Open-clause-crash : goal.returns-in_ok-open_run-in-Open-clause-crash
returns-in_ok-open_run-in-Open-clause-crash g c clean =
    let old = state g.S.Store c.args.conn.now in
    let was : HasCleanDisk old = omega (arith, clean, c.open_run.ensures.steps.was_clean) in
    let s = tables old in
    let is = subst (λ (told : Command). verdict_on s.books s.open_run told ≡ verdict.Change c.args.change.now) c.in-Open.is (c.requires.verdict was) in
    subst (λ (told : Command). Leaves (state g.S.Store c.open_run.new.conn) (IsInterrupted told s)) (sym c.in-Open.is)
    (open_crash c.in-Open.order c.args.change.now old (c.requires.ready was) is (state g.S.Store c.open_run.new.conn) (c.open_run.ensures.steps.crash clean))

pub returns-in_ok-open_run-in-Open-clause-said : goal.returns-in_ok-open_run-in-Open-clause-said
returns-in_ok-open_run-in-Open-clause-said g c clean =
    let old = state g.S.Store c.args.conn.now in
    let was : HasCleanDisk old = omega (arith, clean, c.open_run.ensures.steps.was_clean) in
    let s = tables old in
    let t = tables (state g.S.Store c.open_run.new.conn) in
    let is = subst (λ (told : Command). verdict_on s.books s.open_run told ≡ verdict.Change c.args.change.now) c.in-Open.is (c.requires.verdict was) in
    subst (λ (told : Command). IsAnsweredBy told (reply.Opened c.in-Open.order.month) s t) (sym c.in-Open.is)
    (open_said c.in-Open.order c.args.change.now old (c.requires.ready was) is t (c.in_ok-open_run-in-Open.ensures.steps.done clean).1)

pub apply_change-requires-clause-plain : goal.apply_change-requires-clause-plain
apply_change-requires-clause-plain g c was =
    let s = tables (state g.S.Store c.args.conn.now) in
    let other = other_than c.args.command.now c.in_default.not-Run c.in_default.not-Open c.requires.other in
    plain_rows s.books s.open_run c.args.command.now c.args.change.now other (c.requires.verdict was)

pub returns-in_err-open_run-in-Open-clause-halted : goal.returns-in_err-open_run-in-Open-clause-halted
returns-in_err-open_run-in-Open-clause-halted g c clean is_open =
    let s = tables (state g.S.Store c.args.conn.now) in
    let new = state g.S.Store c.open_run.new.conn in
    let it = c.in_err-open_run-in-Open.ensures.steps.undone clean is_open in
    on_err c.from_residual-in_err-open_run-in-Open.result (it.0, same_cut c.args.command.now s (tables new) it.1)

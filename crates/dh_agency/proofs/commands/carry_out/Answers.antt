use Rattle.std.proofs.Common.{IfOk, OnErr, subst, arith}
use Rattle.sqlite.specs.State.{HasCleanDisk}
use Rattle.sqlite.specs.Held.{state}
use Rattle.dh_model.specs.Books.{State}
use Rattle.dh_schema.specs.Store.{IsReadyWith, Leaves, tables}
use Rattle.dh_runs.specs.Outcomes.{IsInterrupted, IsAnsweredBy}
use Rattle.dh_laws.proofs.CommandLemmas.Carried.{same_cut}
use Rattle.dh_agency.proofs.Carried.{on_err, refused, same_crash}
use Rattle.dh_agency.proofs.commands.carry_out.Goals as goal

pub returns-in-Change-clause-said : goal.returns-in-Change-clause-said
returns-in-Change-clause-said g c clean =
    let between : HasCleanDisk (state g.S.Store c.ask.new.conn) = omega (arith, clean, c.accept-reply.ensures.was_clean) in
    subst (λ (s : State). IfOk c.accept-reply.result (λ reply. IsAnsweredBy c.args.command.now reply s (tables (state g.S.Store c.accept-reply.new.conn))))
    (c.in_ok-change.ensures.done between).1 (c.accept-reply.ensures.said clean)

pub returns-in-Change-clause-crash : goal.returns-in-Change-clause-crash
returns-in-Change-clause-crash g c clean =
    let between : HasCleanDisk (state g.S.Store c.ask.new.conn) = omega (arith, clean, c.accept-reply.ensures.was_clean) in
    subst (λ (s : State). Leaves (state g.S.Store c.accept-reply.new.conn) (IsInterrupted c.args.command.now s))
    (c.in_ok-change.ensures.done between).1 (c.accept-reply.ensures.crash clean)

pub returns-in-Change-clause-halted : goal.returns-in-Change-clause-halted
returns-in-Change-clause-halted g c clean is_open =
    let between : HasCleanDisk (state g.S.Store c.ask.new.conn) = omega (arith, clean, c.accept-reply.ensures.was_clean) in
    subst (λ (s : State). OnErr c.accept-reply.result (IsReadyWith (state g.S.Store c.accept-reply.new.conn) (IsInterrupted c.args.command.now s)))
    (c.in_ok-change.ensures.done between).1 (c.accept-reply.ensures.halted clean is_open)

pub returns-in-Refused-clause-said : goal.returns-in-Refused-clause-said
returns-in-Refused-clause-said g c clean =
    let was : HasCleanDisk (state g.S.Store c.args.conn.now) = omega (arith, clean, c.ask.ensures.was_clean) in
    refused c.args.command.now c.in-Refused.refusal _ (state g.S.Store c.args.conn.now) (tables (state g.S.Store c.ask.new.conn)) (c.requires.ready was)
    (c.in_ok-change.ensures.verdict clean) c.in-Refused.is (c.in_ok-change.ensures.done clean).1

pub returns-in-Refused-clause-crash : goal.returns-in-Refused-clause-crash
returns-in-Refused-clause-crash g c clean =
    same_crash c.args.command.now (tables (state g.S.Store c.args.conn.now)) (state g.S.Store c.ask.new.conn) (c.ask.ensures.crash clean)

pub returns-in_err-change-clause-crash : goal.returns-in_err-change-clause-crash
returns-in_err-change-clause-crash g c clean =
    same_crash c.args.command.now (tables (state g.S.Store c.args.conn.now)) (state g.S.Store c.ask.new.conn) (c.ask.ensures.crash clean)

pub returns-in_err-change-clause-halted : goal.returns-in_err-change-clause-halted
returns-in_err-change-clause-halted g c clean is_open =
    let s = tables (state g.S.Store c.args.conn.now) in
    let new = state g.S.Store c.ask.new.conn in
    let it = c.in_err-change.ensures.undone clean is_open in
    on_err c.from_residual-in_err-change.result (it.0, same_cut c.args.command.now s (tables new) it.1)

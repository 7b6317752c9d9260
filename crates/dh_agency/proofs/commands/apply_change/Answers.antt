use Rattle.std.proofs.Common.{arith}
use Rattle.sqlite.specs.State.{HasCleanDisk}
use Rattle.sqlite.specs.Held.{state}
use Rattle.dh_model.specs.Runs.{batch_size}
use Rattle.dh_schema.specs.Store.{tables}
use Rattle.dh_laws.proofs.CommandLemmas.Carried.{same_cut}
use Rattle.dh_agency.proofs.Carried.{has_place, on_err, put_crash, put_fits, put_in_order, put_said}
use Rattle.dh_agency.proofs.commands.apply_change.Goals as goal

pub apply-requires-clause-order : goal.apply-requires-clause-order
apply-requires-clause-order g c was =
    put_in_order c.args.command.now c.args.change.now (state g.S.Store c.args.conn.now) (c.requires.ready was) (c.requires.verdict was)
    c.commands_are_entered.ensures

pub apply-requires-clause-fits : goal.apply-requires-clause-fits
apply-requires-clause-fits g c was =
    put_fits c.args.command.now c.args.change.now (state g.S.Store c.args.conn.now) (c.requires.ready was) (c.requires.verdict was)
    (c.accepted_changes_fit.ensures batch_size)

pub apply-requires-clause-place : goal.apply-requires-clause-place
apply-requires-clause-place g c was = has_place c.args.change.now (c.requires.second was)

pub returns-in_err-apply-clause-crash : goal.returns-in_err-apply-clause-crash
returns-in_err-apply-clause-crash g c clean =
    let was : HasCleanDisk (state g.S.Store c.args.conn.now) = omega (arith, clean, c.apply.ensures.steps.was_clean) in
    put_crash c.args.command.now c.args.change.now (state g.S.Store c.args.conn.now) (c.requires.ready was) (c.requires.verdict was)
    c.commands_are_entered.ensures (c.requires.plain was) (state g.S.Store c.apply.new.conn) (c.apply.ensures.steps.crash clean)

pub returns-in_err-apply-clause-halted : goal.returns-in_err-apply-clause-halted
returns-in_err-apply-clause-halted g c clean is_open =
    let it = c.in_err-apply.ensures.steps.undone clean is_open in
    on_err c.from_residual.result (
      it.0,
      same_cut c.args.command.now (tables (state g.S.Store c.args.conn.now)) (tables (state g.S.Store c.apply.new.conn)) it.1,
    )

pub returns-clause-crash : goal.returns-clause-crash
returns-clause-crash g c clean =
    let was : HasCleanDisk (state g.S.Store c.args.conn.now) = omega (arith, clean, c.apply.ensures.steps.was_clean) in
    put_crash c.args.command.now c.args.change.now (state g.S.Store c.args.conn.now) (c.requires.ready was) (c.requires.verdict was)
    c.commands_are_entered.ensures (c.requires.plain was) (state g.S.Store c.apply.new.conn) (c.apply.ensures.steps.crash clean)

pub returns-clause-said : goal.returns-clause-said
returns-clause-said g c clean =
    let was : HasCleanDisk (state g.S.Store c.args.conn.now) = omega (arith, clean, c.apply.ensures.steps.was_clean) in
    put_said c.args.command.now c.args.change.now (state g.S.Store c.args.conn.now) (c.requires.ready was) (c.requires.verdict was)
    c.commands_are_entered.ensures (c.requires.plain was) c.reply.result (tables (state g.S.Store c.apply.new.conn)) c.reply.ensures
    (c.in_ok-apply.ensures.steps.done clean).1

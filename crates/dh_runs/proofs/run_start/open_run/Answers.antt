use Rattle.std.proofs.Common.{subst, None, Option}
use Rattle.sqlite.specs.Held.{state}
use Rattle.dh_types.specs.declared.command.Command.TheVariants as command
use Rattle.dh_model.specs.declared.open_run.OpenRun.{OpenRun}
use Rattle.dh_model.specs.Runs.{batch_size}
use Rattle.dh_laws.specs.InOrder.{IsInOrder}
use Rattle.dh_schema.specs.Store.{tables}
use Rattle.dh_runs.proofs.Along.{in_order}
use Rattle.dh_runs.proofs.Carried.{opening_has_place, opening_in_order}
use Rattle.dh_runs.proofs.run_start.open_run.Goals as goal

pub apply-requires-clause-order : goal.apply-requires-clause-order
apply-requires-clause-order g c was =
    let old = state g.S.Store c.args.conn.now in
    let it = c.requires.verdict was in
    opening_in_order it.0 c.args.opening.now (tables old) it.1 (c.requires.none was) (in_order old (c.requires.ready was))

pub apply-requires-clause-fits : goal.apply-requires-clause-fits
apply-requires-clause-fits g c was =
    let old = state g.S.Store c.args.conn.now in
    let books = (tables old).books in
    let here : IsInOrder batch_size books None =
    subst (λ (run : Option OpenRun). IsInOrder batch_size books run) (c.requires.none was) (in_order old (c.requires.ready was)) in
    let it = c.requires.verdict was in
    c.accepted_changes_fit.ensures batch_size books None (command.Open it.0) c.args.opening.now here it.1

pub apply-requires-clause-place : goal.apply-requires-clause-place
apply-requires-clause-place g c was =
    let it = c.requires.verdict was in
    opening_has_place it.0 c.args.opening.now (tables (state g.S.Store c.args.conn.now)) it.1

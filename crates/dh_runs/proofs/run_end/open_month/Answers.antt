use Rattle.std.proofs.Common.{◌≡◌, ◌∙◌, ap, arith, subst, sym, option_map, None}
use Rattle.sqlite.specs.State.{HasCleanDisk}
use Rattle.sqlite.specs.Held.{state}
use Rattle.dh_types.specs.declared.run.Run.{Run}
use Rattle.dh_model.specs.Books.{State}
use Rattle.dh_model.specs.Runs.{batch_size}
use Rattle.dh_model.specs.Whole.{batches_shown, open_row}
use Rattle.dh_laws.specs.Batches.{IsUnderWay}
use Rattle.dh_schema.specs.Store.{tables}
use Rattle.dh_schema.proofs.MonthsStay.{months_stay}
use Rattle.dh_runs.proofs.run_end.open_month.Goals as goal

pub find_open_run-requires : goal.find_open_run-requires
find_open_run-requires g c mid =
    months_stay c.in_ok-months.months (state g.S.Store c.args.conn.now) (state g.S.Store c.months_now.new.conn) (c.in_ok-months.ensures.found mid)
    (c.in_ok-months.ensures.reads.done mid)

pub unclean-requires : goal.unclean-requires
unclean-requires g c clean =
    let old = tables (state g.S.Store c.args.conn.now) in
    let now = tables (state g.S.Store c.months_now.new.conn) in
    let mid : HasCleanDisk (state g.S.Store c.months_now.new.conn) = omega (arith, c.find_open_run.ensures.reads.crash.clean, clean) in
    let early : HasCleanDisk (state g.S.Store c.args.conn.now) = omega (arith, c.months_now.ensures.reads.crash.clean, mid) in
    let none : open_row now.books ≡ None = sym (c.in_ok-run.ensures.found clean) ∙ c.in-None.is in
    let shown : now.open_run ≡ None =
    ap (option_map (λ (row : Run). record { month = row.month; done = batches_shown batch_size now.books row.month })) none in
    let same : old.open_run ≡ now.open_run = ap (λ (t : State). t.open_run) (sym (c.in_ok-months.ensures.reads.done mid).1) in
    subst IsUnderWay (same ∙ shown) (c.requires.run early)

use Rattle.std.proofs.Common.{◌≡◌, ◌∙◌, IfOk, sym, ap, subst, arith}
use Rattle.sqlite.specs.State.{HasCleanDisk}
use Rattle.sqlite.specs.Held.{state}
use Rattle.dh_model.specs.Books.{State}
use Rattle.dh_model.specs.Verdicts.{verdict_on}
use Rattle.dh_laws.specs.Looks.{month_open}
use Rattle.dh_answers.proofs.FrozenCommands.{refused}
use Rattle.dh_schema.specs.Store.{tables}
use Rattle.dh_schema.proofs.MonthsStay.{months_stay}
use Rattle.dh_store.proofs.verdicts.asked.ask_tables.Goals as goal

pub open_month-requires : goal.open_month-requires
open_month-requires g c clean =
    let old = state g.S.Store c.args.conn.now in
    let one = state g.S.Store c.months_now.new.conn in
    months_stay c.in_ok-months.months old one (c.in_ok-months.ensures.found clean) (c.in_ok-months.ensures.reads.done clean)

pub ask_rows-requires-clause-ready : goal.ask_rows-requires-clause-ready
ask_rows-requires-clause-ready g c clean =
    let old = state g.S.Store c.args.conn.now in
    let one = state g.S.Store c.months_now.new.conn in
    let two = state g.S.Store c.open_month.new.conn in
    let early : HasCleanDisk one = omega (arith, c.open_month.ensures.reads.crash.clean, clean) in
    let months = c.in_ok-months.months in
    months_stay months one two (months_stay months old one (c.in_ok-months.ensures.found early) (c.in_ok-months.ensures.reads.done early)).1
    (c.in_ok-open_month.ensures.reads.done clean)

pub ask_rows-requires-clause-month : goal.ask_rows-requires-clause-month
ask_rows-requires-clause-month g c clean =
    c.in_ok-open_month.ensures.month clean ∙ ap (λ (t : State). month_open t.open_run) (sym (c.in_ok-open_month.ensures.reads.done clean).1)

pub ask_rows-requires-clause-passed : goal.ask_rows-requires-clause-passed
ask_rows-requires-clause-passed g c = sym c.open_refusal.ensures ∙ c.in-None.is

pub returns-in-Some-clause-verdict : goal.returns-in-Some-clause-verdict
returns-in-Some-clause-verdict g c clean =
    let one = state g.S.Store c.months_now.new.conn in
    let early : HasCleanDisk one = omega (arith, c.open_month.ensures.reads.crash.clean, clean) in
    let told = c.args.command.now in
    refused (tables one).books _ told _ (tables one).open_run (c.in_ok-open_month.ensures.month clean) c.in-Some.refusal
    (sym c.open_refusal.ensures ∙ c.in-Some.is)
    ∙ ap (λ (t : State). verdict_on t.books t.open_run told) (c.in_ok-months.ensures.reads.done early).1

pub returns-in-None-clause-verdict : goal.returns-in-None-clause-verdict
returns-in-None-clause-verdict g c clean =
    let one = state g.S.Store c.months_now.new.conn in
    let two = state g.S.Store c.open_month.new.conn in
    let late : HasCleanDisk two = omega (arith, c.ask_rows.ensures.reads.crash.clean, clean) in
    let early : HasCleanDisk one = omega (arith, c.open_month.ensures.reads.crash.clean, late) in
    subst (λ (t : State). IfOk c.ask_rows.result (λ v. v ≡ verdict_on t.books t.open_run c.args.command.now))
    ((c.in_ok-open_month.ensures.reads.done late).1 ∙ (c.in_ok-months.ensures.reads.done early).1) (c.ask_rows.ensures.verdict clean)

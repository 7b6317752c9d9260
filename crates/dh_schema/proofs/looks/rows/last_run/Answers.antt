use Rattle.std.proofs.Common.{◌≡◌, ◌∙◌, ◌≤◌, ◌-◌, ap, sym, arith, rules}
use Rattle.std.specs.FinMap.{get}
use Rattle.sqlite.specs.Held.{state}
use Rattle.dh_tables.specs.RunTable.{run_shape}
use Rattle.dh_tables.proofs.ByKey.{by_number}
use Rattle.dh_model.specs.Rules as rule
use Rattle.dh_model.specs.Kinds.{Runs}
use Rattle.dh_schema.specs.Store.{tables}
use Rattle.dh_schema.proofs.LastRun.{none_before}
use Rattle.dh_schema.proofs.looks.rows.last_run.Goals as goal

pub find-requires-clause-kept : goal.find-requires-clause-kept
find-requires-clause-kept g c clean = ((c.requires clean).0.sound.in_order.tables Runs tt).kept

pub returns-then-next-number-clause-found : goal.returns-then-next-number-clause-found
returns-then-next-number-clause-found g c clean =
    let months = (c.requires clean).1 in
    let books = (tables (state g.S.Store c.args.conn.now)).books in
    let few : books.next ≤ books.first =
    omega (arith, c.if-next-number.true, c.number.ensures.value, c.first.ensures, c.number-next.ensures.value, c.next.ensures, months.0, months.1) in
    sym (none_before books ((c.requires clean).0.sound.rules rule.Runs) few)

pub returns-clause-found : goal.returns-clause-found
returns-clause-found g c clean =
    let books = (tables (state g.S.Store c.args.conn.now)).books in
    let months = (c.requires (omega (arith, c.find.ensures.crash.clean, clean))).1 in
    let at : c.number-next.result ≡ books.next = c.number-next.ensures.value ∙ c.next.ensures ∙ months.1 in
    let one_before : c.in-Some.month ≡ c.number-next.result - 1 = search rules in
    let month : c.in-Some.month ≡ books.next - 1 = one_before ∙ ap (λ n. n - 1) at in
    c.in_ok-find.ensures.found clean c.in-Some.month (by_number run_shape c.in-Some.month) ∙ ap (get books.runs) month

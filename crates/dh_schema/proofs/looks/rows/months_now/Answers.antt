use Rattle.std.proofs.Common.{ap, sym, subst}
use Rattle.sqlite.specs.Held.{state}
use Rattle.dh_rows.specs.Months.{Months}
use Rattle.dh_tables.specs.MetaTable.{AreFound, meta_rows}
use Rattle.dh_schema.proofs.Changing.{told}
use Rattle.dh_schema.proofs.looks.rows.months_now.Goals as goal

pub returns-in-Some-clause-found : goal.returns-in-Some-clause-found
returns-in-Some-clause-found g c clean =
    let trees = (state g.S.Store c.args.conn.now).now.trees in
    let has = subst (AreFound (meta_rows trees)) c.in-Some.is (c.in_ok-months.ensures.found clean) in
    let are = sym (told c.in-Some.months trees has) in
    (ap (λ (m : Months). m.first) are, ap (λ (m : Months). m.next) are, ap (λ (m : Months). m.version) are)

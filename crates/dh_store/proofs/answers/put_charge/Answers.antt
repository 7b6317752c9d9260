use Rattle.std.proofs.Common.{◌≡◌, ◌∙◌, ap, true, false, arith}
use Rattle.std.specs.FinMap.{FinMap}
use Rattle.std.specs.Ordering.{nat_cmp}
use Rattle.sqlite.specs.State.{HasCleanDisk}
use Rattle.sqlite.specs.Held.{state}
use Rattle.dh_types.specs.declared.lease.Charge.{Charge}
use Rattle.dh_model.specs.Books.{State, pair_cmp}
use Rattle.dh_model.specs.Runs.{batch_size}
use Rattle.dh_schema.specs.Store.{tables}
use Rattle.dh_schema.proofs.Keyed.{books_are_keyed}
use Rattle.dh_schema.proofs.ReadTables.{on_ok}
use Rattle.dh_store.proofs.ChargeOfMonth.{rows_by_key, rows_of_none}
use Rattle.dh_store.proofs.answers.put_charge.Goals as goal

pub returns-in-Some-clause-put : goal.returns-in-Some-clause-put
returns-in-Some-clause-put g c clean =
    let old = state g.S.Store c.args.conn.now in
    let early : HasCleanDisk old = omega (arith, c.look.ensures.reads.crash.clean, clean) in
    let rules = (c.requires.ready early).sound.rules in
    let with_charges = λ (m : FinMap (pair_cmp nat_cmp nat_cmp) Charge). let s : State = record c.args.books.now {
      books = record c.args.books.now.books { charges = m };
    } in s in
    on_ok c.look.result (λ put test was. put test was
    ∙ ap with_charges (rows_by_key batch_size (tables old).books (books_are_keyed old.now.trees) rules c.args.it.now (c.requires.there early)
    c.args.month c.in-Some.index c.in-Some.ensures.value test))
    (c.look.ensures.put clean)

pub returns-in-None-clause-put : goal.returns-in-None-clause-put
returns-in-None-clause-put g c clean test was =
    let old = state g.S.Store c.args.conn.now in
    let rules = (c.requires.ready clean).sound.rules in
    let with_charges = λ (m : FinMap (pair_cmp nat_cmp nat_cmp) Charge). let s : State = record c.args.books.now {
      books = record c.args.books.now.books { charges = m };
    } in s in
    ap with_charges (was ∙ rows_of_none batch_size (tables old).books (books_are_keyed old.now.trees) rules c.args.it.now (c.requires.there clean)
    c.args.month (λ signed. let not : false ≡ true = c.in-None.ensures.exact.1 signed in cc) test)

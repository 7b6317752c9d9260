use Rattle.std.proofs.Common.{◌∙◌, sym, ap, arith, option_copied}
use Rattle.std.specs.FinMap.{FinMap, get}
use Rattle.sqlite.specs.State.{HasCleanDisk}
use Rattle.sqlite.specs.Held.{state}
use Rattle.dh_types.specs.declared.client.Registration.{Registration}
use Rattle.dh_model.specs.Books.{State, pair_cmp, text_cmp}
use Rattle.dh_laws.specs.Looks.{registration_for}
use Rattle.dh_schema.proofs.ReadTables.{on_ok}
use Rattle.dh_store.proofs.Shown.{property_found}
use Rattle.dh_store.proofs.verdicts.rows.registration.Goals as goal

pub returns-in-Some-clause-gathered : goal.returns-in-Some-clause-gathered
returns-in-Some-clause-gathered g c t b both none among =
    let terms = c.args.terms.now in
    on_ok c.look.result
    (λ after clean.
    let early : HasCleanDisk (state g.S.Store c.args.conn.now) = omega (arith, c.look.ensures.reads.crash.clean, clean) in
    let there = ap option_copied (sym c.in-Some.is) ∙ property_found (state g.S.Store c.args.conn.now).now.trees t b terms.property _ (both early).0 among
    (c.property.ensures ∙ ap (λ (s : State). get s.books.properties terms.property) (both early).1) in (
      (after clean).0,
      (after clean).1 ∙ ap (λ (m : FinMap (pair_cmp text_cmp text_cmp) Registration). record b { books = record b.books { registrations = m } })
          (ap (registration_for t.books.registrations terms.client) there),
    ))
    (c.look.ensures.brought.first t b both none)

pub returns-in-None-clause-gathered : goal.returns-in-None-clause-gathered
returns-in-None-clause-gathered g c t b both none among clean =
    let terms = c.args.terms.now in
    let there = ap option_copied (sym c.in-None.is) ∙ property_found (state g.S.Store c.args.conn.now).now.trees t b terms.property _ (both clean).0 among
    (c.property.ensures ∙ ap (λ (s : State). get s.books.properties terms.property) (both clean).1) in (
      (both clean).0,
      (both clean).1 ∙ ap (λ (m : FinMap (pair_cmp text_cmp text_cmp) Registration). record b { books = record b.books { registrations = m } })
          (none ∙ ap (registration_for t.books.registrations terms.client) there),
    )

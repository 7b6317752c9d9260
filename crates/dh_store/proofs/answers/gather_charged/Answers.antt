use Rattle.std.proofs.Common.{◌≡◌, ◌∙◌, ◌&&◌, refl, sym, ap, subst, nat_eq, Some, arith}
use Rattle.std.specs.List.{All, list_any}
use Rattle.std.specs.FinMap.{get, values}
use Rattle.sqlite.specs.State.{HasCleanDisk}
use Rattle.sqlite.specs.Held.{state}
use Rattle.dh_model.specs.Books.{State}
use Rattle.dh_model.specs.Whole.{rows_where}
use Rattle.dh_laws.specs.AskedAbout.{is_owned_by}
use Rattle.dh_laws.proofs.FactLemmas.Asked.{listed_leases}
use Rattle.dh_schema.specs.Store.{tables}
use Rattle.dh_schema.proofs.Keyed.{books_are_keyed}
use Rattle.dh_store.proofs.ChargeOfMonth.{each_is_there}
use Rattle.dh_store.proofs.answers.gather_charged.Goals as goal

pub gather_charges-requires-clause-there : goal.gather_charges-requires-clause-there
gather_charges-requires-clause-there g c clean =
    let old = state g.S.Store c.args.conn.now in
    let same = (c.in_ok-gather_owned.ensures.reads.done clean).1 in
    let owned = (c.in_ok-gather_owned.ensures.gathered (tables old) (λ _. (refl, c.requires.none)) clean).1 in
    let leases = c.deref.ensures.value ∙ c.in_ok-leases.ensures.leases ∙ ap (λ (s : State). values s.books.leases) owned
    ∙ listed_leases (tables old).books (is_owned_by c.args.it.owner) in
    subst (λ (t : State). All (λ lease. get t.books.leases lease.terms.number ≡ Some lease) c.deref.result.now) (sym same)
    (each_is_there (tables old).books (books_are_keyed old.now.trees)
    (λ lease. is_owned_by c.args.it.owner (get (tables old).books.properties lease.terms.property)) c.deref.result.now leases)

pub gather_charges-requires-clause-none : goal.gather_charges-requires-clause-none
gather_charges-requires-clause-none g c clean =
    ap (λ (s : State). s.books.charges)
    (c.in_ok-gather_owned.ensures.gathered (tables (state g.S.Store c.args.conn.now)) (λ _. (refl, c.requires.none)) clean).1

pub returns-clause-gathered : goal.returns-clause-gathered
returns-clause-gathered g c t at clean =
    let early : HasCleanDisk (state g.S.Store c.gather_owned.new.conn) = omega (arith, c.gather_charges.ensures.reads.crash.clean, clean) in
    let was = c.in_ok-gather_owned.ensures.gathered t at early in
    let leases = c.deref.ensures.value ∙ c.in_ok-leases.ensures.leases ∙ ap (λ (s : State). values s.books.leases) was.1
    ∙ listed_leases t.books (is_owned_by c.args.it.owner) in (
      (c.in_ok-gather_charges.ensures.reads.done clean).1 ∙ was.0,
      c.in_ok-gather_charges.ensures.gathered clean ∙ (λ i. record (was.1 i) {
        books = record (was.1 i).books {
          charges = rows_where (λ charge. list_any (λ lease. nat_eq charge.lease lease.terms.number) (leases i) && nat_eq charge.month c.args.it.month)
              (was.0 i).books.charges;
        };
      }),
    )

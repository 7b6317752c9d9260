use Rattle.std.proofs.Common.{◌∙◌, ap, subst, map, Some, arith}
use Rattle.std.specs.List.{list_any}
use Rattle.std.specs.FinMap.{FinMap, values}
use Rattle.std.specs.Ordering.{nat_cmp}
use Rattle.sqlite.specs.State.{HasCleanDisk}
use Rattle.sqlite.specs.Held.{state}
use Rattle.dh_types.specs.declared.lease.Lease.{Lease}
use Rattle.dh_types.specs.declared.property.Property.{Property}
use Rattle.dh_model.specs.Books.{State, text_cmp}
use Rattle.dh_model.specs.Checks.{is_same_text}
use Rattle.dh_model.specs.Whole.{rows_where}
use Rattle.dh_model.proofs.KeyOrders.{text_ties, text_total}
use Rattle.dh_laws.specs.InOrder.{AreKeyed}
use Rattle.dh_laws.proofs.FactLemmas.Asked.{named_leases}
use Rattle.dh_laws.proofs.FactLemmas.Narrowed.{values_where}
use Rattle.dh_schema.proofs.Keyed.{books_are_keyed}
use Rattle.dh_store.proofs.answers.gather_let.Goals as goal

pub returns-clause-gathered : goal.returns-clause-gathered
returns-clause-gathered g c t b is_its at not none held clean =
    let old = state g.S.Store c.args.conn.now in
    let early : HasCleanDisk old = omega (arith, c.gather_leases.ensures.reads.crash.clean, clean) in
    let was = at early in
    let named = c.deref.result.now in
    let numbers = c.deref.ensures.value ∙ c.in_ok-numbers.ensures.numbers
    ∙ ap (λ (s : State). map (λ (p : Property). p.number) (values s.books.properties)) was.1
    ∙ ap (λ (m : FinMap text_cmp Property). map (λ (p : Property). p.number) (values m)) held
    ∙ ap (map (λ (p : Property). p.number)) (values_where text_total text_ties (λ (p : Property). is_its (Some p)) t.books.properties) in
    let keyed = subst (λ (s : State). AreKeyed s.books) was.0 (books_are_keyed old.now.trees) in (
      (c.in_ok-gather_leases.ensures.reads.done clean).1 ∙ was.0,
      c.in_ok-gather_leases.ensures.gathered clean (ap (λ (s : State). s.books.leases) was.1 ∙ none)
          ∙ (λ i. record (was.1 i) {
            books = record (was.1 i).books {
              leases = rows_where (λ (l : Lease). list_any (is_same_text l.terms.property) named) (was.0 i).books.leases;
            };
          })
          ∙ ap (λ (m : FinMap nat_cmp Lease). let s : State = record b { books = record b.books { leases = m } } in s)
          (named_leases t.books keyed is_its not named numbers),
    )

use Rattle.std.proofs.Common.{◌≡◌, ◌<◌, ◌≤◌, ◌∙◌, ◌++◌, ◌∷◌, [], ℕ, Bool, List, length, take, take_all, refl, sym, ap, arith}
use Rattle.std.specs.FinMap.{empty}
use Rattle.std.specs.List.{list_any}
use Rattle.std.proofs.lemmas.List.{take_more}
use Rattle.sqlite.specs.State.{HasCleanDisk}
use Rattle.sqlite.specs.Held.{state}
use Rattle.dh_types.specs.declared.lease.Lease.{Lease}
use Rattle.dh_model.specs.Books.{State}
use Rattle.dh_model.specs.Checks.{is_same_text}
use Rattle.dh_model.specs.Whole.{rows_where}
use Rattle.dh_model.proofs.KeyOrders.{nat_ties, nat_total}
use Rattle.dh_laws.proofs.FactLemmas.Asked.{none_where, one_more}
use Rattle.dh_schema.specs.Store.{tables}
use Rattle.dh_store.proofs.AskedBooks.{along_next, nothing_yet}
use Rattle.dh_store.proofs.answers.gather_leases.Goals as goal

pub loop-property-init : goal.loop-property-init
loop-property-init g c =
    let old = state g.S.Store c.args.conn.now in
    let books = c.args.books.now in
    record {
      crash = nothing_yet old;
      ready = λ clean. (c.requires clean, refl);
      held = λ clean none i. record books {
        books = record books.books { leases = (none ∙ sym (none_where nat_total nat_ties (tables old).books.leases)) i };
      };
    }

pub loop-property-preserved : goal.loop-property-preserved
loop-property-preserved g c =
    let low : c.loop-property.property-index < length c.args.properties.now = omega arith in
    let old = state g.S.Store c.args.conn.now in
    let mid = state g.S.Store c.loop-property.conn in
    let new = state g.S.Store c.look.new.conn in
    let so_far = take c.loop-property.property-index c.args.properties.now in
    let it = c.property-item.result in
    let more = rw (← c.property-item.is) at (take_more c.args.properties.now c.loop-property.property-index it low) in
    let with_leases : List (List ℕ) → State = λ numbers. record c.args.books.now {
      books = record c.args.books.now.books { leases = rows_where (λ lease. list_any (is_same_text lease.terms.property) numbers) (tables old).books.leases };
    } in
    let asks : Lease → List ℕ → Bool = λ lease number. is_same_text lease.terms.property number in
    let step : HasCleanDisk new → tables mid ≡ tables old → c.loop-property.books ≡ with_leases so_far
    → c.look.new.books ≡ with_leases (so_far ++ it ∷ [])
    = λ clean same held.
    (c.in_ok-look.ensures.brought.more (tables old) (with_leases so_far) (λ lease. list_any (asks lease) so_far) (λ _. (same, held)) refl clean).1
    ∙ ap (λ (test : Lease → Bool).
    let s : State = record c.args.books.now { books = record c.args.books.now.books { leases = rows_where test (tables old).books.leases } } in s)
    (one_more asks so_far it) in
    along_next {Held = c.args.books.now.books.leases ≡ empty → c.loop-property.books ≡ with_leases so_far} old mid new c.loop-property.invariant
    c.look.ensures.reads.crash c.in_ok-look.ensures.reads.done (λ clean same held none. step clean same (held none) ∙ ap with_leases (sym more))

pub returns-clause-gathered : goal.returns-clause-gathered
returns-clause-gathered g c clean none =
    let old = state g.S.Store c.args.conn.now in
    let all : length c.args.properties.now ≤ c.loop-property.property-index = omega arith in
    let with_leases : List (List ℕ) → State = λ numbers. record c.args.books.now {
      books = record c.args.books.now.books { leases = rows_where (λ lease. list_any (is_same_text lease.terms.property) numbers) (tables old).books.leases };
    } in
    c.loop-property.invariant.held clean none ∙ ap with_leases (take_all c.loop-property.property-index c.args.properties.now all)

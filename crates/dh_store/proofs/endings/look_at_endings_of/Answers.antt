use Rattle.std.proofs.Common.{◌≡◌, ◌<◌, ◌≤◌, ◌∙◌, ◌++◌, ◌∷◌, [], Bool, nat_eq, List, length, take, take_all, refl, sym, ap, arith}
use Rattle.std.specs.FinMap.{empty}
use Rattle.std.specs.List.{list_any}
use Rattle.std.proofs.lemmas.List.{take_more}
use Rattle.sqlite.specs.State.{HasCleanDisk}
use Rattle.sqlite.specs.Held.{state}
use Rattle.dh_types.specs.declared.lease.Ending.{Ending}
use Rattle.dh_types.specs.declared.lease.Lease.{Lease}
use Rattle.dh_model.specs.Books.{State}
use Rattle.dh_model.specs.Whole.{rows_where}
use Rattle.dh_model.proofs.KeyOrders.{nat_ties, nat_total}
use Rattle.dh_laws.proofs.FactLemmas.Asked.{none_where, one_more}
use Rattle.dh_schema.specs.Store.{tables}
use Rattle.dh_store.proofs.AskedBooks.{along_next, nothing_yet}
use Rattle.dh_store.proofs.endings.look_at_endings_of.Goals as goal

pub loop-lease-init : goal.loop-lease-init
loop-lease-init g c =
    let old = state g.S.Store c.args.conn.now in
    let books = c.args.books.now in
    record {
      crash = nothing_yet old;
      ready = λ clean. ((c.requires clean).0, refl);
      held = λ clean none i. record books {
        books = record books.books { endings = (none ∙ sym (none_where nat_total nat_ties (tables old).books.endings)) i };
      };
    }

pub look_later-requires-clause-ready : goal.look_later-requires-clause-ready
look_later-requires-clause-ready g c clean =
    let before = c.loop-lease.invariant in
    let early : HasCleanDisk (state g.S.Store c.args.conn.now) = omega (arith, before.crash.clean, clean) in
    let stays = before.ready clean in
    (stays.0, (c.requires early).1 ∙ sym (ap (λ (t : State). t.books.version) stays.1))

pub loop-lease-preserved : goal.loop-lease-preserved
loop-lease-preserved g c =
    let low : c.loop-lease.lease-index < length c.args.leases.now = omega arith in
    let old = state g.S.Store c.args.conn.now in
    let mid = state g.S.Store c.loop-lease.conn in
    let new = state g.S.Store c.look_later.new.conn in
    let start = c.args.books.now in
    let so_far = take c.loop-lease.lease-index c.args.leases.now in
    let it = c.lease-item.result in
    let asks : Ending → Lease → Bool = λ ending lease. nat_eq ending.lease lease.terms.number in
    let more = rw (← c.lease-item.is) at (take_more c.args.leases.now c.loop-lease.lease-index it low) in
    let with_endings : List Lease → State = λ leases. record start {
      books = record start.books { endings = rows_where (λ ending. list_any (asks ending) leases) (tables old).books.endings };
    } in
    let step : HasCleanDisk new → tables mid ≡ tables old → (start.books.endings ≡ empty → c.loop-lease.books ≡ with_endings so_far)
    → start.books.endings ≡ empty → c.look_later.new.books ≡ with_endings (so_far ++ it ∷ [])
    = λ clean same held none.
    (c.in_ok-look_later.ensures.brought.more (tables old) (with_endings so_far) (λ ending. list_any (asks ending) so_far)
    (λ _. (same, held none)) refl clean).1
    ∙ ap (λ (test : Ending → Bool).
    let s : State = record start { books = record start.books { endings = rows_where test (tables old).books.endings } } in s)
    (one_more asks so_far it) in
    along_next {Held = start.books.endings ≡ empty → c.loop-lease.books ≡ with_endings so_far} old mid new c.loop-lease.invariant
    c.look_later.ensures.reads.crash c.in_ok-look_later.ensures.reads.done
    (λ clean same held none. step clean same held none ∙ ap with_endings (sym more))

pub returns-clause-gathered : goal.returns-clause-gathered
returns-clause-gathered g c clean none =
    let old = state g.S.Store c.args.conn.now in
    let start = c.args.books.now in
    let all : length c.args.leases.now ≤ c.loop-lease.lease-index = omega arith in
    let with_endings : List Lease → State = λ leases. record start {
      books = record start.books {
        endings = rows_where (λ ending. list_any (λ (lease : Lease). nat_eq ending.lease lease.terms.number) leases) (tables old).books.endings;
      };
    } in
    c.loop-lease.invariant.held clean none ∙ ap with_endings (take_all c.loop-lease.lease-index c.args.leases.now all)

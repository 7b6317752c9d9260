use Rattle.std.proofs.Common.{◌≡◌, ◌<◌, ◌≤◌, ◌∙◌, ◌++◌, ◌∷◌, [], ◌&&◌, nat_eq, Bool, List, length, take, take_all, Some, refl, sym, ap, subst, arith}
use Rattle.std.specs.List.{list_any}
use Rattle.std.specs.FinMap.{get}
use Rattle.std.proofs.lemmas.List.{take_more}
use Rattle.sqlite.specs.State.{HasCleanDisk}
use Rattle.sqlite.specs.Held.{state}
use Rattle.dh_types.specs.declared.lease.Lease.{Lease}
use Rattle.dh_types.specs.declared.lease.Charge.{Charge}
use Rattle.dh_model.specs.Books.{State}
use Rattle.dh_model.specs.Whole.{rows_where}
use Rattle.dh_model.proofs.KeyOrders.{nats_tie, nats_total}
use Rattle.dh_laws.proofs.FactLemmas.Asked.{none_where, one_more}
use Rattle.dh_schema.specs.Store.{tables}
use Rattle.dh_store.proofs.AskedBooks.{along_next, nothing_yet}
use Rattle.dh_store.proofs.ChargeOfMonth.{any_of_month}
use Rattle.dh_store.proofs.answers.gather_charges.Goals as goal

pub loop-lease-init : goal.loop-lease-init
loop-lease-init g c =
    let old = state g.S.Store c.args.conn.now in
    let books = c.args.books.now in
    record {
      crash = nothing_yet old;
      ready = λ clean. (c.requires.ready clean, refl);
      held = λ clean i. record books {
        books = record books.books { charges = (c.requires.none clean ∙ sym (none_where nats_total nats_tie (tables old).books.charges)) i };
      };
    }

pub put_charge-requires-clause-there : goal.put_charge-requires-clause-there
put_charge-requires-clause-there g c clean =
    let low : c.loop-lease.lease-index < length c.args.leases.now = omega arith in
    let before = c.loop-lease.invariant in
    let early : HasCleanDisk (state g.S.Store c.args.conn.now) = omega (arith, before.crash.clean, clean) in
    let it = c.lease-item.result in
    ap (λ (t : State). get t.books.leases it.terms.number) (before.ready clean).1
    ∙ subst (λ (l : Lease). get (tables (state g.S.Store c.args.conn.now)).books.leases l.terms.number ≡ Some l) (sym c.lease-item.is)
    (c.requires.there early c.loop-lease.lease-index it low)

pub loop-lease-preserved : goal.loop-lease-preserved
loop-lease-preserved g c =
    let low : c.loop-lease.lease-index < length c.args.leases.now = omega arith in
    let old = state g.S.Store c.args.conn.now in
    let mid = state g.S.Store c.loop-lease.conn in
    let new = state g.S.Store c.put_charge.new.conn in
    let start = c.args.books.now in
    let so_far = take c.loop-lease.lease-index c.args.leases.now in
    let it = c.lease-item.result in
    let asks : Charge → Lease → Bool = λ charge lease. nat_eq charge.lease lease.terms.number && nat_eq charge.month c.args.month in
    let more = rw (← c.lease-item.is) at (take_more c.args.leases.now c.loop-lease.lease-index it low) in
    let charged : List Lease → State = λ leases. record start {
      books = record start.books { charges = rows_where (λ charge. list_any (asks charge) leases) (tables old).books.charges };
    } in
    let step : HasCleanDisk new → tables mid ≡ tables old → c.loop-lease.books ≡ charged so_far
    → c.put_charge.new.books ≡ charged (so_far ++ it ∷ []) = λ clean same held.
    let rows = ap (λ (t : State). t.books.charges) same in
    c.in_ok-put_charge.ensures.put clean (λ charge. list_any (asks charge) so_far)
    (ap (λ (t : State). t.books.charges) held ∙ (λ i. rows_where (λ charge. list_any (asks charge) so_far) (sym rows i)))
    ∙ (λ i. record (held i) { books = record (held i).books { charges = rows_where (one_more asks so_far it i) (rows i) } }) in
    along_next {Held = c.loop-lease.books ≡ charged so_far} old mid new c.loop-lease.invariant c.put_charge.ensures.reads.crash
    c.in_ok-put_charge.ensures.reads.done (λ clean same held. step clean same held ∙ ap charged (sym more))

pub returns-clause-gathered : goal.returns-clause-gathered
returns-clause-gathered g c clean =
    let old = state g.S.Store c.args.conn.now in
    let start = c.args.books.now in
    let all : length c.args.leases.now ≤ c.loop-lease.lease-index = omega arith in
    let asks : Charge → Lease → Bool = λ charge lease. nat_eq charge.lease lease.terms.number in
    let charged : (Charge → Bool) → State = λ test. record start {
      books = record start.books { charges = rows_where test (tables old).books.charges };
    } in
    c.loop-lease.invariant.held clean
    ∙ ap (λ (leases : List Lease). charged (λ charge. list_any (λ lease. asks charge lease && nat_eq charge.month c.args.month) leases))
    (take_all c.loop-lease.lease-index c.args.leases.now all)
    ∙ ap charged (λ i charge. any_of_month (asks charge) (nat_eq charge.month c.args.month) c.args.leases.now i)

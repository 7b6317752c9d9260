use Rattle.std.proofs.Common.{◌≡◌, ◌<◌, ◌≤◌, ◌∙◌, List, length, take, take_all, refl, sym, ap, arith}
use Rattle.std.proofs.lemmas.List.{take_more}
use Rattle.sqlite.specs.Held.{state}
use Rattle.dh_types.specs.declared.lease.Lease.{Lease}
use Rattle.dh_model.specs.Books.{State}
use Rattle.dh_laws.specs.AskedAbout.{with_accounts}
use Rattle.dh_schema.specs.Store.{tables}
use Rattle.dh_store.specs.AnsweredFrom.{HasNoAccounts}
use Rattle.dh_store.proofs.AskedBooks.{along_next, no_accounts, nothing_yet}
use Rattle.dh_store.proofs.answers.gather_accounts.Goals as goal

pub loop-lease-init : goal.loop-lease-init
loop-lease-init g c =
    let old = state g.S.Store c.args.conn.now in
    let books = c.args.books.now in
    record {
      crash = nothing_yet old;
      ready = λ clean. (c.requires clean, refl);
      held = λ clean none i. record books { books = no_accounts (tables old).books books.books none i };
    }

pub loop-lease-preserved : goal.loop-lease-preserved
loop-lease-preserved g c =
    let low : c.loop-lease.lease-index < length c.args.leases.now = omega arith in
    let old = state g.S.Store c.args.conn.now in
    let mid = state g.S.Store c.loop-lease.conn in
    let new = state g.S.Store c.put_account.new.conn in
    let books = c.args.books.now in
    let so_far = take c.loop-lease.lease-index c.args.leases.now in
    let it = c.lease-item.result in
    let more = rw (← c.lease-item.is) at (take_more c.args.leases.now c.loop-lease.lease-index it low) in
    let with_these : List Lease → State = λ leases. record books { books = with_accounts (tables old).books books.books leases } in
    along_next {Held = HasNoAccounts books.books → c.loop-lease.books ≡ with_these so_far} old mid new c.loop-lease.invariant
    c.put_account.ensures.reads.crash c.in_ok-put_account.ensures.reads.done
    (λ clean same held none. (c.in_ok-put_account.ensures.gathered (tables old) books so_far (λ _. (same, held none)) clean).1
    ∙ ap with_these (sym more))

pub returns-clause-gathered : goal.returns-clause-gathered
returns-clause-gathered g c clean none =
    let old = state g.S.Store c.args.conn.now in
    let books = c.args.books.now in
    let all : length c.args.leases.now ≤ c.loop-lease.lease-index = omega arith in
    let with_these : List Lease → State = λ leases. record books { books = with_accounts (tables old).books books.books leases } in
    c.loop-lease.invariant.held clean none ∙ ap with_these (take_all c.loop-lease.lease-index c.args.leases.now all)

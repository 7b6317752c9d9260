use Rattle.std.proofs.Common.{◌≡◌, take}
use Rattle.sqlite.specs.Held.{state}
use Rattle.dh_laws.specs.AskedAbout.{with_accounts}
use Rattle.dh_schema.specs.Store.{tables}
use Rattle.dh_store.specs.AnsweredFrom.{HasNoAccounts}
use Rattle.dh_store.proofs.AskedBooks.{Along}
use Rattle.dh_store.proofs.answers.gather_accounts.Given as goal

-- the accounts of the leases so far
abbrev pub invariant-loop-lease : goal.invariant-loop-lease
invariant-loop-lease g l =
    let old = state g.S.Store l.fn.conn in
    Along old (state g.S.Store l.conn)
    (HasNoAccounts l.fn.books.books
    → l.books ≡ record l.fn.books { books = with_accounts (tables old).books l.fn.books.books (take l.lease-index l.leases) })

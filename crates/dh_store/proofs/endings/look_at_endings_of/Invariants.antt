use Rattle.std.proofs.Common.{◌≡◌, nat_eq, take}
use Rattle.std.specs.FinMap.{empty}
use Rattle.std.specs.List.{list_any}
use Rattle.sqlite.specs.Held.{state}
use Rattle.dh_types.specs.declared.lease.Lease.{Lease}
use Rattle.dh_model.specs.Whole.{rows_where}
use Rattle.dh_schema.specs.Store.{tables}
use Rattle.dh_store.proofs.AskedBooks.{Along}
use Rattle.dh_store.proofs.endings.look_at_endings_of.Given as goal

-- the endings of the leases so far
abbrev pub invariant-loop-lease : goal.invariant-loop-lease
invariant-loop-lease g l =
    let old = state g.S.Store l.fn.conn in
    let so_far = take l.lease-index l.leases in
    Along old (state g.S.Store l.conn) (l.fn.books.books.endings ≡ empty → l.books ≡ record l.fn.books {
      books = record l.fn.books.books {
        endings = rows_where (λ ending. list_any (λ (lease : Lease). nat_eq ending.lease lease.terms.number) so_far) (tables old).books.endings;
      };
    })

use Rattle.std.proofs.Common.{◌≡◌, ◌&&◌, nat_eq, take}
use Rattle.std.specs.List.{list_any}
use Rattle.sqlite.specs.Held.{state}
use Rattle.dh_model.specs.Whole.{rows_where}
use Rattle.dh_schema.specs.Store.{tables}
use Rattle.dh_store.proofs.AskedBooks.{Along}
use Rattle.dh_store.proofs.answers.gather_charges.Given as goal

-- what was charged on the leases so far in the month
abbrev pub invariant-loop-lease : goal.invariant-loop-lease
invariant-loop-lease g l =
    let old = state g.S.Store l.fn.conn in
    let so_far = take l.lease-index l.leases in
    Along old (state g.S.Store l.conn) (l.books ≡ record l.fn.books {
      books = record l.fn.books.books {
        charges = rows_where (λ charge. list_any (λ lease. nat_eq charge.lease lease.terms.number && nat_eq charge.month l.month) so_far)
            (tables old).books.charges;
      };
    })

use Rattle.std.proofs.Common.{◌≡◌, take}
use Rattle.std.specs.FinMap.{empty}
use Rattle.std.specs.List.{list_any}
use Rattle.sqlite.specs.Held.{state}
use Rattle.dh_model.specs.Checks.{is_same_text}
use Rattle.dh_model.specs.Whole.{rows_where}
use Rattle.dh_schema.specs.Store.{tables}
use Rattle.dh_store.proofs.AskedBooks.{Along}
use Rattle.dh_store.proofs.answers.gather_leases.Given as goal

-- the leases on the properties so far
abbrev pub invariant-loop-property : goal.invariant-loop-property
invariant-loop-property g l =
    let old = state g.S.Store l.fn.conn in
    let so_far = take l.property-index l.properties in
    Along old (state g.S.Store l.conn) (l.fn.books.books.leases ≡ empty → l.books ≡ record l.fn.books {
      books = record l.fn.books.books { leases = rows_where (λ lease. list_any (is_same_text lease.terms.property) so_far) (tables old).books.leases };
    })

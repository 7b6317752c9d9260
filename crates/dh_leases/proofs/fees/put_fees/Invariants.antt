use Rattle.std.proofs.Common.{◌≡◌, vec_len}
use Rattle.dh_model.specs.Books.{State, with_rows}
use Rattle.dh_model.specs.Runs.{part_fee_key}
use Rattle.dh_leases.proofs.fees.put_fees.Given as goal

abbrev pub invariant-loop-fee : goal.invariant-loop-fee
invariant-loop-fee l =
    ◌≡◌ {A = State} (record l.books { books = record l.books.books { part_fees = with_rows part_fee_key l.fees.items l.books.books.part_fees } })
    (record l.initial.books {
      books = record l.initial.books.books {
        part_fees = with_rows part_fee_key l.initial.fees.items l.initial.books.books.part_fees;
      };
    })

abbrev pub decreases-loop-fee : goal.decreases-loop-fee
decreases-loop-fee l = vec_len l.fees

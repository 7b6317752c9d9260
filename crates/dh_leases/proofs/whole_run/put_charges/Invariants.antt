use Rattle.std.proofs.Common.{◌≡◌, vec_len}
use Rattle.dh_model.specs.Books.{State, with_rows}
use Rattle.dh_model.specs.Runs.{charge_key}
use Rattle.dh_leases.proofs.whole_run.put_charges.Given as goal

abbrev pub invariant-loop-charge : goal.invariant-loop-charge
invariant-loop-charge l =
    ◌≡◌ {A = State} (record l.books { books = record l.books.books { charges = with_rows charge_key l.charges.items l.books.books.charges } })
    (record l.initial.books { books = record l.initial.books.books { charges = with_rows charge_key l.initial.charges.items l.initial.books.books.charges } })

abbrev pub decreases-loop-charge : goal.decreases-loop-charge
decreases-loop-charge l = vec_len l.charges

use Rattle.std.proofs.Common.{◌≡◌, vec_len}
use Rattle.dh_model.specs.Books.{State, with_rows}
use Rattle.dh_model.specs.Runs.{part_key}
use Rattle.dh_leases.proofs.whole_run.put_parts.Given as goal

abbrev pub invariant-loop-part : goal.invariant-loop-part
invariant-loop-part l =
    ◌≡◌ {A = State} (record l.books { books = record l.books.books { parts = with_rows part_key l.parts.items l.books.books.parts } })
    (record l.initial.books { books = record l.initial.books.books { parts = with_rows part_key l.initial.parts.items l.initial.books.books.parts } })

abbrev pub decreases-loop-part : goal.decreases-loop-part
decreases-loop-part l = vec_len l.parts
